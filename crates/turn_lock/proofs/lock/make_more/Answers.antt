use Rattle.std.proofs.Common.{◌≡◌, ◌∙◌, ap, sym, suc, ◌+◌, ◌++◌, ◌∷◌, [], length, map, arith, length-append}
use Rattle.std.proofs.lemmas.List.Elements.{All-push}
use mathlib.Core.List.{map-append}
use Rattle.turn_lock.specs.Passes.{badge, badges, IsFresh}
use Rattle.turn_lock.specs.Seats.{pass_of}
use Rattle.turn_lock.proofs.StepLemmas.{splits}
use Rattle.turn_lock.proofs.MakingLemmas.{badges-push, makes, is_new}
use Rattle.turn_lock.proofs.lock.make_more.Goals as goal

pub split_seat-other-requires : goal.split_seat-other-requires
split_seat-other-requires g c =
    let fits = c.requires.lock in
    let key = c.args.shared.now.key in
    let i = c.loop-i.invariant in
    let most = c.requires.count.1 in
    let below = c.loop-i-test.true in
    let made = i.4.passes in (
      i.2 ∙ fits.0,
      rw fits.1 (omega arith),
      splits g.V.Logged.base g.V.Logged.history g.V.Logged.legal g.V.Logged.by
          (g.V.Logged.base key.value.value) key.turns c.loop-i.seat.id c.loop-i.seat.me.0 i.4.number i.4.mine
          (omega (arith, made, below, most)),
    )

pub loop-i-preserved : goal.loop-i-preserved
loop-i-preserved g c =
    let i = c.loop-i.invariant in
    let below = c.loop-i-test.true in
    let e = c.split_seat-other.ensures in
    let old = c.loop-i.others.items in
    let items = c.in_ok-push.ensures.items in
    let pass = pass_of c.split_seat-other.result in
    let new = is_new c.args.turns c.loop-i.i c.args.seat.now.table_id c.args.seat.now.me.0.base c.loop-i.seat c.split_seat-other.result i.4
    i.5 (e.3 ∙ i.2) e.4 in
    let long : length c.push.new.self.items ≡ length old + 1 = ap length items ∙ length-append old (pass ∷ []) in
    let n = i.1 in
    let long' : length c.push.new.self.items ≡ suc (length old) = omega (arith, long) in (
      omega (arith, below),
      omega (arith, long, n),
      e.0 ∙ i.2,
      e.1 ∙ i.3,
      makes c.args.turns c.loop-i.i c.loop-i.seat c.split_seat-other.new.seat e.2 i.4,
      ap (λ z. z.0.base) e.2 ∙ i.5,
      ap (map badge) items ∙ (map-append badge old (pass ∷ [])
          ∙ ((λ j. i.6 j ++ new.0 j ∷ []) ∙ (sym (badges-push c.args.seat.now.table_id c.args.seat.now.me.0.base c.args.turns 2 (length old)
          (c.loop-i.i + 1) (omega (arith, n))) ∙ ap (badges c.args.seat.now.table_id c.args.seat.now.me.0.base c.args.turns 2)
          (sym long')))),
      rw items (All-push IsFresh old pass i.7 new.1),
    )
