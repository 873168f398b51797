use Rattle.std.proofs.Common.{◌≡◌, ◌&&◌, List, sym, ◌∙◌, subst}
use Rattle.std.specs.List.{list_all}
use Rattle.fca_model.specs.Sets.{Set}
use Rattle.fca_model.proofs.SetLemmas.{same-true}
use Rattle.lectic_basis.proofs.RowLemmas.{all_with_repeated}
use Rattle.lectic_basis.proofs.repetitions.push_unless_at.Goals as goal

pub returns-then-eq-clause-rows : goal.returns-then-eq-clause-rows
returns-then-eq-clause-rows g c p =
    let E : Set = c.in-Some.earlier.now in
    let R : Set = c.args.row.now in
    subst (λ (Xs : List Set). list_all p Xs ≡ (list_all p Xs && p R)) c.as_slice.ensures.rows
    (all_with_repeated p c.as_slice.result.now c.args.place.now E R c.in-Some.ensures.lookup.3.0 c.in-Some.ensures.lookup.1
    (same-true E R (sym c.eq.ensures ∙ c.if-eq.true)))
