-- Lists of views, of which a step changes one or adds one at the end.
-- A fact of all views is then shown of the one that changed, and taken over for the others. A sum of all views moves by what
-- the one view moves.
use Rattle.std.proofs.Common.{◌≡◌, ◌≢◌, ℕ, ◌+◌, ◌*◌, ◌<◌, ◌≤◌, ◌⊎◌, zero, suc, List, [], ◌∷◌, ◌++◌, length, set, sym, refl, ap, ◌∙◌, subst}
use Rattle.std.proofs.Common.{inl, inr, ⊎_elim, arith, mul-add}
use mathlib.Core.Option.{some, some-injective, some-ne-none}
use lib.ListN.{get_elem?}
use Rattle.atomic_table.proofs.Lists.{at_set}
use Rattle.turn_lock.specs.Histories.{total}

module _ {X : Type 0} where
  pub inside : (xs : List X) (i : ℕ) (v : X) → get_elem? xs i ≡ some v → i < length xs
  inside [] i v at = absurd (some-ne-none v (sym at))
  inside (x ∷ xs) zero v at = omega arith
  inside (x ∷ xs) (suc i) v at = let h = inside xs i v at in omega arith

  pub same_at : (xs : List X) (i j : ℕ) (v w : X) → get_elem? xs i ≡ some v → get_elem? xs j ≡ some w → i ≡ j → v ≡ w
  same_at xs i j v w a b e = some-injective v w (sym a ∙ (ap (get_elem? xs) e ∙ b))

  -- a fact of all views, after one changes
  pub after : (Q : ℕ → X → Type 0) (xs : List X) (me : ℕ) (w : X) → Q me w → ((j : ℕ) (v : X) → j ≢ me → get_elem? xs j ≡ some v → Q j v)
      → (j : ℕ) (v : X) → get_elem? (set xs me w) j ≡ some v → Q j v
  after Q xs me w mine others j v at = ⊎_elim (λ (t : (j ≡ me) × (w ≡ v)). subst (λ (z : ℕ × X). Q z.0 z.1) (λ i. (sym t.0 i, t.1 i)) mine)
      (λ (t : (j ≢ me) × (get_elem? xs j ≡ some v)). others j v t.0 t.1) (at_set xs me j w v at)

  at_end : (xs : List X) (a b : X) (j : ℕ) → get_elem? (xs ++ a ∷ []) j ≡ some b → (get_elem? xs j ≡ some b) ⊎ ((j ≡ length xs) × (a ≡ b))
  at_end [] a b zero e = inr (refl, some-injective a b e)
  at_end [] a b (suc j) e = absurd (some-ne-none b (sym e))
  at_end (x ∷ xs) a b zero e = inl e
  at_end (x ∷ xs) a b (suc j) e = ⊎_elim (λ p. inl p) (λ p. inr (ap suc p.0, p.1)) (at_end xs a b j e)

  -- and after one is added
  pub after_end : (Q : ℕ → X → Type 0) (xs : List X) (w : X) → Q (length xs) w → ((j : ℕ) (v : X) → get_elem? xs j ≡ some v → Q j v)
      → (j : ℕ) (v : X) → get_elem? (xs ++ w ∷ []) j ≡ some v → Q j v
  after_end Q xs w mine others j v at = ⊎_elim (λ (t : get_elem? xs j ≡ some v). others j v t)
      (λ (t : (j ≡ length xs) × (w ≡ v)). subst (λ (z : ℕ × X). Q z.0 z.1) (λ i. (sym t.0 i, t.1 i)) mine) (at_end xs w v j at)

  -- a fact of the only view
  pub only : (Q : ℕ → X → Type 0) (w : X) → Q 0 w → (j : ℕ) (v : X) → get_elem? (w ∷ []) j ≡ some v → Q j v
  only Q w mine = after_end Q [] w mine (λ j v there. absurd (some-ne-none v (sym there)))

  pub total-set : (f : X → ℕ) (xs : List X) (i : ℕ) (v w : X) → get_elem? xs i ≡ some v → total f (set xs i w) + f v ≡ total f xs + f w
  total-set f [] i v w at = absurd (some-ne-none v (sym at))
  total-set f (x ∷ xs) zero v w at = let e = ap f (some-injective x v at) in omega arith
  total-set f (x ∷ xs) (suc i) v w at = let e = total-set f xs i v w at in omega arith

  pub total-push : (f : X → ℕ) (xs : List X) (y : X) → total f (xs ++ y ∷ []) ≡ total f xs + f y
  total-push f [] y = omega arith
  total-push f (x ∷ xs) y = let e = total-push f xs y in omega arith

  pub total_below : (f g : X → ℕ) (k : ℕ) (xs : List X) → ((i : ℕ) (v : X) → get_elem? xs i ≡ some v → f v ≤ k * g v)
      → total f xs ≤ k * total g xs
  total_below f g k [] h = omega arith
  total_below f g k (x ∷ xs) h =
      let here = h 0 x refl in
      let more = total_below f g k xs (λ i v at. h (suc i) v at) in
      omega (arith, mul-add k (g x) (total g xs))

  total_one : (f : X → ℕ) (xs : List X) (i : ℕ) (v : X) → get_elem? xs i ≡ some v → f v ≤ total f xs
  total_one f [] i v at = absurd (some-ne-none v (sym at))
  total_one f (x ∷ xs) zero v at = let e = ap f (some-injective x v at) in omega arith
  total_one f (x ∷ xs) (suc i) v at = let e = total_one f xs i v at in omega arith

  pub total_two : (f : X → ℕ) (xs : List X) (i j : ℕ) (v w : X) → i ≢ j → get_elem? xs i ≡ some v → get_elem? xs j ≡ some w
      → f v + f w ≤ total f xs
  total_two f [] i j v w ne a b = absurd (some-ne-none v (sym a))
  total_two f (x ∷ xs) zero zero v w ne a b = absurd (ne refl)
  total_two f (x ∷ xs) zero (suc j) v w ne a b = let e = ap f (some-injective x v a) in let h = total_one f xs j w b in omega arith
  total_two f (x ∷ xs) (suc i) zero v w ne a b = let e = ap f (some-injective x w b) in let h = total_one f xs i v a in omega arith
  total_two f (x ∷ xs) (suc i) (suc j) v w ne a b = let h = total_two f xs i j v w (λ e. ne (ap suc e)) a b in omega arith
