-- Tests of neighbouring numbers.
use Rattle.std.proofs.Common.{◌≡◌, ℕ, zero, suc, ◌+◌, ◌<◌, ◌≤◌, Bool, true, [], ◌∷◌, ◌++◌, refl, sym, ap, ◌∙◌, arith, inl, inr, add-one}
use Rattle.std.proofs.lemmas.Bool.{and_parts, and_from, cases_lt}
use Rattle.std.specs.List.{list_all, range_with_len}

pub range_all_from : (p : ℕ → Bool) (a n : ℕ) → ((i : ℕ) → a ≤ i → i < a + n → p i ≡ true) → list_all p (range_with_len a n) ≡ true
range_all_from p a zero h = refl
range_all_from p a (suc n) h =
    and_from (p a) (list_all p (range_with_len (a + 1) n)) (h a (omega arith) (omega arith))
    (range_all_from p (a + 1) n (λ i l u. h i (omega arith) (omega arith)))

pub range_all_at : (p : ℕ → Bool) (a n : ℕ) → list_all p (range_with_len a n) ≡ true → (i : ℕ) → a ≤ i → i < a + n → p i ≡ true
range_all_at p a zero h i l u = absurd (omega arith)
range_all_at p a (suc n) h i l u =
    let parts = and_parts (p a) (list_all p (range_with_len (a + 1) n)) h in
    elim (cases_lt a i) [
      | inl lt ↦ range_all_at p (a + 1) n parts.1 i (omega arith) (omega arith)
      | inr le ↦ let e : i ≡ a = omega arith in ap p e ∙ parts.0
    ]

-- one number more
pub range_more : (a n j : ℕ) → a + n ≡ j → range_with_len a (n + 1) ≡ range_with_len a n ++ j ∷ []
range_more a zero j e = let h : a ≡ j = omega arith in ap (λ x. x ∷ []) h
range_more a (suc n) j e =
    ap (range_with_len a) (add-one (suc n)) ∙ ap (λ xs. a ∷ xs)
    (ap (range_with_len (a + 1)) (sym (add-one n)) ∙ range_more (a + 1) n j (omega arith))
