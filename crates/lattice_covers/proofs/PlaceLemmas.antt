-- Places in a list in lectic order: the set at place j has j sets before it.
use Rattle.std.proofs.Common.{◌≡◌, ℕ, zero, suc, ◌+◌, ◌<◌, ◌≤◌, Bool, true, false, cond, List, [], ◌∷◌, map, filter, length, get_or, refl}
use Rattle.std.proofs.Common.{sym, ap, ◌∙◌, arith, inl, inr}
use Rattle.std.proofs.lemmas.Bool.{and_parts, cases_eq}
use Rattle.std.proofs.lemmas.List.Sums.{prefix_len_is, AllPass-from_list_all}
use Rattle.std.specs.List.{list_all, enumerate_from}
use Rattle.std.specs.Ordering.{is_lt}
use Rattle.std.specs.List.Sorted.{IsPartitionedBy, IsPartitionPoint}
use Rattle.fca_model.specs.SetLaws.{lectic_total}
use Rattle.fca_model.specs.Sets.{Set, lectic_cmp, increasing}
use Rattle.fca_model.specs.Pseudo.{is_cover}
use Rattle.fca_model.proofs.SetLemmas.{lectic_refl}
use Rattle.lattice_covers.specs.Neighbours.{place_in, pairs_with}
use Rattle.fca_model.proofs.SortedLemmas.{is_less}

pub increasing_at : (Xs : List Set) → increasing Xs ≡ true → (i j : ℕ) (d : Set) → i < j → j < length Xs
    → is_lt (lectic_cmp (get_or Xs i d) (get_or Xs j d)) ≡ true
increasing_at [] h i j d l m = absurd (omega arith)
increasing_at (X ∷ Xs) h i zero d l m = absurd (omega arith)
increasing_at (X ∷ Xs) h zero (suc j) d l m = AllPass-from_list_all (λ B. is_lt (lectic_cmp X B)) Xs
    (and_parts (list_all (λ B. is_lt (lectic_cmp X B)) Xs) (increasing Xs) h).0 j d (omega arith)
increasing_at (X ∷ Xs) h (suc i) (suc j) d l m =
    increasing_at Xs (and_parts (list_all (λ B. is_lt (lectic_cmp X B)) Xs) (increasing Xs) h).1 i j d (omega arith) (omega arith)

pub place_in-at : (Xs : List Set) → increasing Xs ≡ true → (j : ℕ) (d : Set) → j < length Xs → place_in Xs (get_or Xs j d) ≡ j
place_in-at Xs h j d l = prefix_len_is (λ Y. is_lt (lectic_cmp Y (get_or Xs j d))) Xs j d (omega arith)
    (λ k lt. increasing_at Xs h k j d lt l)
    (λ _. ap is_lt (lectic_refl (get_or Xs j d)))

-- i with the first parts
abbrev firsts : ℕ → List (ℕ × Set) → List (ℕ × ℕ)
firsts i bs = map (λ b. (i, b.0)) bs

-- i with what f gives
abbrev given_by : ℕ → (Set → ℕ) → List Set → List (ℕ × ℕ)
given_by i f Ys = map (λ Y. (i, f Y)) Ys

abbrev passing : (Set → Bool) → List (ℕ × Set) → List (ℕ × Set)
passing q bs = filter (λ b. q b.1) bs

-- the places of those that pass a test, where f gives each its place
places-filter : (q : Set → Bool) (i : ℕ) (f : Set → ℕ) (k : ℕ) (Ys : List Set)
    → ((j : ℕ) (d : Set) → j < length Ys → f (get_or Ys j d) ≡ k + j)
    → firsts i (passing q (enumerate_from k Ys)) ≡ given_by i f (filter q Ys)
places-filter q i f k [] h = refl
places-filter q i f k (Y ∷ Ys) h =
    let rest : firsts i (passing q (enumerate_from (k + 1) Ys)) ≡ given_by i f (filter q Ys) =
    places-filter q i f (k + 1) Ys (λ j d l. h (suc j) d (omega arith) ∙ omega arith) in
    let here : k ≡ f Y = sym (h 0 Y (omega arith) ∙ omega arith) in
    elim (q Y) as (λ t. firsts i (cond t ((k, Y) ∷ passing q (enumerate_from (k + 1) Ys)) (passing q (enumerate_from (k + 1) Ys)))
    ≡ given_by i f (cond t (Y ∷ filter q Ys) (filter q Ys))) [
      | true ↦ cc
      | false ↦ rest
    ]

pub pairs_with-filter : (Xs : List Set) → increasing Xs ≡ true → (q : Set → Bool) (i : ℕ)
    → firsts i (passing q (enumerate_from 0 Xs)) ≡ pairs_with Xs i (filter q Xs)
pairs_with-filter Xs h q i = places-filter q i (place_in Xs) 0 Xs (λ j d l. place_in-at Xs h j d l ∙ omega arith)

-- the pairs of one intent with its place
abbrev pub row_of : List Set → ℕ × Set → List (ℕ × ℕ)
row_of Xs a = firsts a.0 (passing (is_cover Xs a.1) (enumerate_from 0 Xs))

-- ---- what `partition_point` asks and says

pub partitioned : (Xs : List Set) (X : Set) → increasing Xs ≡ true → IsPartitionedBy (λ Y. is_lt (lectic_cmp Y X)) Xs
partitioned Xs X h i j d le l before = elim (cases_eq i j) [
  | inl here ↦ ap (λ k. is_lt (lectic_cmp (get_or Xs k d) X)) here ∙ before
  | inr other ↦ ap is_lt (lectic_total.trans (get_or Xs i d) (get_or Xs j d) X (is_less _ (increasing_at Xs h i j d (omega arith) l))
      (is_less _ before))
]

pub place_from_point : (Xs : List Set) (X : Set) (n : ℕ) → n ≤ length Xs
    → IsPartitionPoint (λ Y. is_lt (lectic_cmp Y X) ≡ true) (λ Y. is_lt (lectic_cmp Y X) ≡ false) Xs n → n ≡ place_in Xs X
place_from_point Xs X n le h = sym (prefix_len_is (λ Y. is_lt (lectic_cmp Y X)) Xs n X le (λ k lt. h.0 k X (omega arith) lt)
    (λ lt. h.1 n X (omega arith) lt))
