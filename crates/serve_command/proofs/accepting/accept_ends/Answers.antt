use Rattle.std.proofs.Common.{◌<◌, ◌∙◌, length, refl, sym, ap, subst, arith}
use Rattle.command_io.specs.declared.stop.Stop.TheVariants.{ListenerFault}
use Rattle.serve_command.specs.Accepted.{TookFirst, HasRoomFor}
use Rattle.serve_command.proofs.AcceptedLemmas.{TookFirst-none, TookAndGave-both, short-some}
use Rattle.serve_command.proofs.StepLemmas.{Rose-between}
use Rattle.serve_command.proofs.accepting.accept_ends.Goals as goal

pub loop-number-init : goal.loop-number-init
loop-number-init g c =
    let a = g.L.Listener.ends c.args.link.now in
    let none = c.in_ok-ends.ends.ok.0 ∙ ap length c.in_ok-ends.ensures.items in
    let room = c.in_ok-ends.ensures.capacity in
    let wide = c.from.ensures in (
      subst (TookFirst a a) (sym c.in_ok-ends.ensures.items) (TookFirst-none a),
      none,
      omega arith,
      c.requires.listening,
      refl,
      (λ other. refl),
      refl,
    )

-- those that came are given back as they are, and the count of faults rose for the one that did not come
pub returns-in-Err-clause-short : goal.returns-in-Err-clause-short
returns-in-Err-clause-short g c =
    let a = g.L.Listener.ends c.args.link.now in
    let b = g.L.Listener.ends c.accept.new.self in
    let after = g.L.Listener.ends c.give_back.new.link in
    let inv = c.loop-number.invariant in
    let taken = c.loop-number.ends.items in
    let long = c.loop-number.ends.ok.0 in
    let many = inv.1 in
    let more = c.loop-number-test.true in
    let fewer : length taken < c.args.count = omega (arith, long, many, more) in
    let took : TookFirst a b taken = subst (λ x. TookFirst a x taken) (sym c.in-Err.ensures.none) inv.0 in
    let served = TookAndGave-both a b after taken taken c.requires.room refl took
    (λ room. c.give_back.ensures.given (subst (HasRoomFor b) (sym long) room)) in
    short-some c.args.count a after taken _ ListenerFault served fewer
    (Rose-between _ _ _ _ inv.6 c.in-Err.ensures.failed c.give_back.ensures.quiet_accept) refl
