-- Tests of the members of a set. The members are the places at which the list of Booleans has true; so all of them pass a test where each
-- such place does.
use Rattle.std.proofs.Common.{◌≡◌, ℕ, zero, suc, ◌+◌, ◌<◌, ◌≤◌, Bool, true, false, not, ◌&&◌, ◌||◌, List, [], ◌∷◌, ◌++◌, filter}
use Rattle.std.proofs.Common.{length, get_or, refl, sym, ap, ◌∙◌, arith, inl, inr}
use Rattle.std.proofs.lemmas.Bool.{and_from, cases_lt, or_left, or_right}
use Rattle.std.proofs.lemmas.List.Folds.{list_all-append}
use Rattle.std.specs.List.{list_all, list_any, range_with_len}
use Rattle.fca_model.specs.Sets.{Set}
use Rattle.fca_model.proofs.ListLemmas.{list_all-filter, filter_passes, implies_from, implies_at}
use Rattle.fca_model.proofs.InvariantLemmas.{each}
use Rattle.fca_model.proofs.RangeLemmas.{range_all_at}
use Rattle.attr_bits.proofs.PlaceLemmas.{member_below}
use Rattle.direct_basis.specs.Direct.{members}

-- ---- neighbouring numbers

pub range_any_from : (p : ℕ → Bool) (a n i : ℕ) → a ≤ i → i < a + n → p i ≡ true → list_any p (range_with_len a n) ≡ true
range_any_from p a zero i l u t = absurd (omega arith)
range_any_from p a (suc n) i l u t = elim (cases_lt a i) [
  | inl lt ↦ or_right (p a) (list_any p (range_with_len (a + 1) n)) (range_any_from p (a + 1) n i (omega arith) (omega arith) t)
  | inr le ↦ let e : a ≡ i = omega arith in or_left (p a) (list_any p (range_with_len (a + 1) n)) (ap p e ∙ t)
]

-- ---- members

pub members_from : (p : ℕ → Bool) (A : Set) → ((a : ℕ) → get_or A a false ≡ true → p a ≡ true) → list_all p (members A) ≡ true
members_from p A h = each p (members A) (λ a among. h a
    (among (λ i. get_or A i false) (filter_passes (λ i. get_or A i false) (range_with_len 0 (length A)))))

pub members_at : (p : ℕ → Bool) (A : Set) → list_all p (members A) ≡ true → (a : ℕ) → get_or A a false ≡ true → p a ≡ true
members_at p A h a t =
    let has : ℕ → Bool = λ i. get_or A i false in
    let below = member_below A a t in
    implies_at (has a) (p a) (range_all_at (λ i. not (has i) || p i) 0 (length A)
    (sym (list_all-filter p has (range_with_len 0 (length A))) ∙ h) a (omega arith) (omega arith)) t

-- one element more that may be kept
pub list_all-filter_more : {X : Type 0} (q p : X → Bool) (xs : List X) (x : X) → list_all q (filter p xs) ≡ true → (p x ≡ true → q x ≡ true)
    → list_all q (filter p (xs ++ x ∷ [])) ≡ true
list_all-filter_more {X = X} q p xs x h t =
    let test : X → Bool = λ y. not (p y) || q y in
    list_all-filter q p (xs ++ x ∷ []) ∙ list_all-append test xs (x ∷ [])
    ∙ and_from (list_all test xs) (test x && true) (sym (list_all-filter q p xs) ∙ h)
    (and_from (test x) true (implies_from (p x) (q x) t) refl)
