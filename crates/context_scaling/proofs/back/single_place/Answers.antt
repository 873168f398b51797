use Rattle.std.proofs.Common.{◌∙◌, ◌+◌, drop, take, sym, ap}
use Rattle.context_scaling.specs.Back.{places_from}
use Rattle.context_scaling.proofs.NominalLemmas.{found_then, found_again, found_first, places_in, places_out}
use Rattle.context_scaling.proofs.back.single_place.Goals as goal
use Rattle.context_scaling.proofs.back.single_place.Goals.{then-has+else-is_some, else-has}

pub returns-then-is_some : goal.returns-then-is_some
returns-then-is_some c =
    let row = c.args.row.now in
    let p = c.loop-p.p in
    let found = c.loop-p.found in
    let here = places_in row c.args.first c.args.count p c.loop-p-test.true c.requires (sym c.has.ensures ∙ c.if-has.true) in
    sym (found_again found p _ (sym c.is_some.ensures ∙ c.if-is_some.true))
    ∙ ap (found_then found) (sym here)
    ∙ c.loop-p.invariant

pub loop-p-preserved : goal.loop-p-preserved
loop-p-preserved c =
    let row = c.args.row.now in
    let p = c.loop-p.p in
    let found = c.loop-p.found in
    let later = places_from (p + 1) (drop (p + 1) (take c.args.count (drop c.args.first row))) in
    elim c.if-has.branch [
      | then-has+else-is_some w ↦
          let here = places_in row c.args.first c.args.count p c.loop-p-test.true c.requires (sym c.has.ensures ∙ w.if-has.true) in
          rw w.found-is (found_first found p later (sym w.is_some.ensures ∙ w.if-is_some.false) ∙ ap (found_then found) (sym here)
          ∙ c.loop-p.invariant)
      | else-has w ↦
          let there = places_out row c.args.first c.args.count p c.loop-p-test.true c.requires (sym c.has.ensures ∙ w.if-has.false) in
          rw w.found-is (ap (found_then found) (sym there) ∙ c.loop-p.invariant)
    ]
