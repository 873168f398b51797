-- What `retain` keeps, where its closure does not change: by recursion on what the closure answered, each answer is that of the
-- test, so the elements kept are those that pass it.
use Rattle.std.proofs.Common.{◌≡◌, Bool, true, false, List, [], ◌∷◌, length, filter, cond, refl, ap, ◌∙◌, subst, arith}
use Rattle.std.specs.List.{items_where_true}
use Rattle.std.specs.List.Retain.{IsFiltered, ReturnsInTurn}

module _ {X P : Type 0} (R : P → X → Bool → P → Type 0) (test : X → Bool) (f : P)
    (says : (x : X) (b : Bool) (q : P) → R f x b q → (b ≡ test x) × (q ≡ f)) where
  kept : (bs : List Bool) (xs : List X) (p q : P) → p ≡ f → length bs ≡ length xs → ReturnsInTurn R p bs xs q
      → items_where_true bs xs ≡ filter test xs
  kept [] [] p q e l h = refl
  kept [] (x ∷ xs) p q e l h = absurd (omega arith)
  kept (b ∷ bs) [] p q e l h = absurd (omega arith)
  kept (true ∷ bs) (x ∷ xs) p q e l h =
      let told = says x true h.0 (subst (λ g. R g x true h.0) e h.1) in
      ap (λ ys. x ∷ ys) (kept bs xs h.0 q told.1 (omega arith) h.2) ∙ ap (λ t. cond t (x ∷ filter test xs) (filter test xs)) told.0
  kept (false ∷ bs) (x ∷ xs) p q e l h =
      let told = says x false h.0 (subst (λ g. R g x false h.0) e h.1) in
      kept bs xs h.0 q told.1 (omega arith) h.2 ∙ ap (λ t. cond t (x ∷ filter test xs) (filter test xs)) told.0

  pub filter_from_retain_at : (xs ys : List X) → IsFiltered R f xs ys → ys ≡ filter test xs
  filter_from_retain_at xs ys h = h.4 ∙ kept h.0 xs f h.1 refl h.2 h.3
