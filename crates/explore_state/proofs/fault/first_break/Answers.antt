use Rattle.std.proofs.Common.{◌∙◌, sym, ap}
use Rattle.explore_state.specs.Faults.{broken_by}
use Rattle.explore_state.proofs.OpenLemmas.{first_break-next}
use Rattle.explore_state.proofs.fault.first_break.Goals as goal

pub loop-place-preserved : goal.loop-place-preserved
loop-place-preserved c =
    let row = c.index-rows-place.result in
    let whole = ap (broken_by c.args.known.now.members) c.index-rows-place.is in
    sym (first_break-next c.args.known.now.members c.args.rows.now c.loop-place.place row c.loop-place-test.true
    (sym whole ∙ sym c.first_broken.ensures ∙ c.in_default.is)) ∙ c.loop-place.invariant
