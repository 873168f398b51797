use Rattle.std.proofs.Common.{◌≡◌, ◌<◌, ◌+◌, ◌∙◌, ◌++◌, ◌∷◌, Bool, true, false, cond, List, [], filter, take, length, get_or, sym, ap}
use Rattle.std.proofs.Common.{subst}
use Rattle.fca_model.specs.Sets.{Set, within}
use Rattle.fca_model.specs.Context.{Context}
use Rattle.extent_places.proofs.ObjectLemmas.{filter_next}
use Rattle.lattice_covers.proofs.chain.larger_rows_with.Goals as goal
use Rattle.lattice_covers.proofs.chain.larger_rows_with.Goals.{then-contains+in_ok-push, else-contains}

pub loop-row-preserved : goal.loop-row-preserved
loop-row-preserved g c =
    let K : Context = c.args.rows.now in
    let A : Set = c.args.a.now in
    let k = c.loop-row.row-index in
    let R : Set = c.row-item.result in
    let rows = c.as_slice-row-items.ensures.rows in
    let inside : k < length K.rows = subst (λ (Rs : List Set). k < length Rs) rows c.loop-row-test.true in
    let there : R ≡ get_or K.rows k R = c.row-item.is ∙ ap (λ (Rs : List Set). get_or Rs k R) rows in
    let next : (b : Bool) → c.contains.result ≡ b
    → filter (within A) (take (k + 1) K.rows) ≡ cond b (filter (within A) (take k K.rows) ++ R ∷ [])
    (filter (within A) (take k K.rows)) =
    λ b t. filter_next (within A) K.rows k R b inside there (sym c.contains.ensures ∙ t) in
    record {
      found = elim c.if-contains.branch [
        | then-contains+in_ok-push w ↦ w.above-is ∙ w.in_ok-push.ensures.ok
            ∙ ap (λ (X : Context). record { width = X.width; rows = X.rows ++ R ∷ [] }) c.loop-row.invariant.found
            ∙ ap (λ (Xs : List Set). record { width = K.width; rows = Xs }) (sym (next true w.if-contains.true))
        | else-contains w ↦ w.above-is ∙ c.loop-row.invariant.found
            ∙ ap (λ (Xs : List Set). record { width = K.width; rows = Xs }) (sym (next false w.if-contains.false))
      ];
    }
