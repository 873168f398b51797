-- Tests of neighbouring numbers, of all elements of a list, and of filters of neighbouring numbers.
use Rattle.std.proofs.Common.{◌≡◌, ℕ, zero, suc, ◌+◌, ◌<◌, Bool, true, false, not, ◌||◌, List, [], ◌∷◌, ◌++◌, cond, take, filter}
use Rattle.std.proofs.Common.{length, get_or, refl, sym, ap, ◌∙◌, arith, inl, inr, All, eqb, eq-eqb}
use Rattle.std.proofs.lemmas.Bool.{false≢true, and_parts, and_from, cases_Bool, not-false, or_cases, or_left, or_right}
use Rattle.std.proofs.lemmas.List.Elements.{All-get_or}
use Rattle.std.specs.List.{list_all, list_any, range_with_len}
use Rattle.fca_model.specs.Sets.{Set, same}
use Rattle.fca_model.proofs.ListLemmas.{list_all-filter, list_any-not, implies_at}
use Rattle.fca_model.proofs.SetLemmas.{same_refl, same-true}
use Rattle.fca_model.proofs.RangeLemmas.{range_all_at, range_more}

-- a number that passes both tests is found among those that pass the first
pub range_any : (p q : ℕ → Bool) (n i : ℕ) → i < n → q i ≡ true → p i ≡ true → list_any p (filter q (range_with_len 0 n)) ≡ true
range_any p q n i l a b = elim (cases_Bool (list_any p (filter q (range_with_len 0 n)))) [
  | inl t ↦ t
  | inr f ↦
      let none = not-false (list_all (λ j. not (p j)) (filter q (range_with_len 0 n)))
      (sym (list_any-not p (filter q (range_with_len 0 n))) ∙ f) in
      let each = range_all_at (λ j. not (q j) || not (p j)) 0 n (sym (list_all-filter (λ j. not (p j)) q (range_with_len 0 n)) ∙ none) i
      (omega arith) (omega arith) in
      absurd (false≢true (sym (ap not b) ∙ implies_at (q i) (not (p i)) each a))
]

-- a test of all elements, by those that are there
pub all_among : (p : Set → Bool) (Xs : List Set) → ((X : Set) → list_any (same X) Xs ≡ true → p X ≡ true) → list_all p Xs ≡ true
all_among p [] h = refl
all_among p (X ∷ Xs) h = and_from (p X) (list_all p Xs) (h X (or_left (same X X) (list_any (same X) Xs) (same_refl X)))
    (all_among p Xs (λ Y t. h Y (or_right (same Y X) (list_any (same Y) Xs) t)))

-- and by their places
pub all_by_place : (p : Set → Bool) (Xs : List Set) → ((g : ℕ) → g < length Xs → p (get_or Xs g []) ≡ true) → list_all p Xs ≡ true
all_by_place p [] h = refl
all_by_place p (X ∷ Xs) h = and_from (p X) (list_all p Xs) (h 0 (omega arith)) (all_by_place p Xs (λ g l. h (suc g) (omega arith)))

-- sets of one width
pub all_wide : (n : ℕ) (Xs : List Set) → All (λ X. length X ≡ n) Xs → list_all (λ X. eqb (length X) n) Xs ≡ true
all_wide n Xs h = all_by_place (λ X. eqb (length X) n) Xs
    (λ g l. eq-eqb (length (get_or Xs g [])) n (All-get_or (λ (X : Set). length X ≡ n) Xs g [] l h))

pub all_at_place : (p : Set → Bool) (Xs : List Set) (g : ℕ) → list_all p Xs ≡ true → g < length Xs → p (get_or Xs g []) ≡ true
all_at_place p [] g h l = absurd (omega arith)
all_at_place p (X ∷ Xs) zero h l = (and_parts (p X) (list_all p Xs) h).0
all_at_place p (X ∷ Xs) (suc g) h l = all_at_place p Xs g (and_parts (p X) (list_all p Xs) h).1 (omega arith)

-- an element is among the list
pub place_among : (Xs : List Set) (g : ℕ) → g < length Xs → list_any (same (get_or Xs g [])) Xs ≡ true
place_among [] g l = absurd (omega arith)
place_among (X ∷ Xs) zero l = or_left (same X X) (list_any (same X) Xs) (same_refl X)
place_among (X ∷ Xs) (suc g) l = or_right (same (get_or Xs g []) X) (list_any (same (get_or Xs g [])) Xs) (place_among Xs g (omega arith))

-- what is there has a first place
pub first_place : (X : Set) (Xs : List Set) → list_any (same X) Xs ≡ true
    → (g : ℕ) × (g < length Xs) × (get_or Xs g [] ≡ X) × (list_any (same X) (take g Xs) ≡ false)
first_place X [] h = absurd (false≢true h)
first_place X (Y ∷ Xs) h = elim (cases_Bool (same X Y)) [
  | inl t ↦ (0, omega arith, sym (same-true X Y t), refl)
  | inr f ↦ elim (or_cases (same X Y) (list_any (same X) Xs) h) [
    | inl t ↦ absurd (false≢true (sym f ∙ t))
    | inr there ↦
        let r = first_place X Xs there in
        (suc r.0, omega (arith, r.1), r.2, ap (λ b. b || list_any (same X) (take r.0 Xs)) f ∙ r.3)
  ]
]

-- ---- filters of neighbouring numbers, one number more

pub append_nil : {X : Type 0} (xs : List X) → xs ++ [] ≡ xs
append_nil [] = refl
append_nil (x ∷ xs) = ap (λ ys. x ∷ ys) (append_nil xs)

pub filter_push : (p : ℕ → Bool) (xs : List ℕ) (k : ℕ) → filter p (xs ++ k ∷ []) ≡ filter p xs ++ cond (p k) (k ∷ []) []
filter_push p [] k = refl
filter_push p (x ∷ xs) k = elim (p x) as (λ b. cond b (x ∷ filter p (xs ++ k ∷ [])) (filter p (xs ++ k ∷ [])) ≡ cond b (x ∷ filter p xs)
    (filter p xs) ++ cond (p k) (k ∷ []) []) [
      | true ↦ ap (λ ys. x ∷ ys) (filter_push p xs k)
      | false ↦ filter_push p xs k
    ]

pub kept_more : (p : ℕ → Bool) (k : ℕ) (old new : List ℕ) → old ≡ filter p (range_with_len 0 k) → p k ≡ true → new ≡ old ++ k ∷ []
    → new ≡ filter p (range_with_len 0 (k + 1))
kept_more p k old new o t n =
    n ∙ ap (λ ys. ys ++ k ∷ []) o ∙ sym (ap (filter p) (range_more 0 k k (omega arith)) ∙ filter_push p (range_with_len 0 k) k
    ∙ ap (λ b. filter p (range_with_len 0 k) ++ cond b (k ∷ []) []) t)

pub kept_skips : (p : ℕ → Bool) (k : ℕ) (old : List ℕ) → old ≡ filter p (range_with_len 0 k) → p k ≡ false
    → old ≡ filter p (range_with_len 0 (k + 1))
kept_skips p k old o t =
    o ∙ sym (ap (filter p) (range_more 0 k k (omega arith)) ∙ filter_push p (range_with_len 0 k) k
    ∙ ap (λ b. filter p (range_with_len 0 k) ++ cond b (k ∷ []) []) t ∙ append_nil (filter p (range_with_len 0 k)))
