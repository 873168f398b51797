use Rattle.std.proofs.Common.{ℕ, List, length, ◌∙◌, refl, sym, subst, arith}
use Rattle.fca_model.specs.Implications.{Rule}
use Rattle.implication_closure.specs.Closing.{Fired}
use Rattle.fca_model.proofs.SetLemmas.{within_refl, within_trans}
use Rattle.implication_closure.proofs.ClosingLemmas.{passes_measure, passes_end, none_fired}
use Rattle.implication_closure.proofs.close_by_counters.Goals as goal

pub loop-next-init : goal.loop-next-init
loop-next-init g c =
    let J : List Rule = c.args.members.now in
    let n : ℕ = length c.args.left.now in
    record {
      wide = refl;
      above = within_refl c.args.x.now;
      least = λ T h r. h;
      fired = subst (λ (left : List ℕ). Fired left J c.args.x.now) (sym (c.fill.ensures.after (λ y h. h)))
          (none_fired J n c.args.x.now c.requires.room);
      room = omega (arith, c.requires.room, c.fill.ensures.len);
    }

pub loop-next-smaller : goal.loop-next-smaller
loop-next-smaller g c = passes_measure c.args.members.now c.args.x.now c.loop-next.closed c.pass-next.result c.loop-next.invariant.wide
    c.pass-next.ensures.pass (sym c.eq.ensures ∙ c.if-eq.false)

pub loop-next-preserved : goal.loop-next-preserved
loop-next-preserved g c = record {
  wide = c.pass-next.ensures.pass.wide ∙ c.loop-next.invariant.wide;
  above = within_trans c.args.x.now c.loop-next.closed c.pass-next.result c.loop-next.invariant.above c.pass-next.ensures.pass.above;
  least = λ T h r. c.pass-next.ensures.pass.bounded T (c.loop-next.invariant.least T h r) r;
  fired = c.pass-next.ensures.fired;
  room = omega (arith, c.loop-next.invariant.room, c.pass-next.ensures.room);
}

pub returns-then-eq : goal.returns-then-eq
returns-then-eq g c = passes_end c.args.members.now c.args.x.now c.loop-next.closed c.pass-next.result c.loop-next.invariant.wide
    c.loop-next.invariant.above c.loop-next.invariant.least c.pass-next.ensures.pass (sym c.eq.ensures ∙ c.if-eq.true)
