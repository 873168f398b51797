-- Attributes that an attribute forces: none at first, one more where a closure was looked for, and those of a set for the sets above it and
-- for longer lists.
use Rattle.std.proofs.Common.{◌≡◌, ℕ, zero, suc, ◌<◌, ◌≤◌, true, false, List, [], ◌∷◌, length, get_or, set, refl, sym, ap, ◌∙◌, subst}
use Rattle.std.proofs.Common.{arith, inl, inr, get_or-set_same, get_or-set_other, length-set}
use Rattle.std.proofs.lemmas.Bool.{false≢true, false_from_ne_true, cases_eq, cases_lt}
use Rattle.std.proofs.lemmas.List.{get_or_default}
use Rattle.fca_model.specs.Sets.{Set, within, agree_before}
use Rattle.fca_model.specs.Implications.{Rule}
use Rattle.fca_model.proofs.SetLemmas.{within_trans, within_at_place, within_set, set_within, agree_at}
use Rattle.lectic_basis.specs.Forced.{AreForced, IsLonger}
use Rattle.lectic_basis.specs.Watches.{Differs, IsBounded}

beyond : (xs : List ℕ) (k : ℕ) → length xs ≤ k → get_or xs k k ≡ k
beyond xs k le = go xs k k le
  where
    go : (ys : List ℕ) (j d : ℕ) → length ys ≤ j → get_or ys j d ≡ d
    go [] j d l = refl
    go (y ∷ ys) zero d l = absurd (omega arith)
    go (y ∷ ys) (suc j) d l = go ys j d (omega (arith, l))

-- each attribute forces itself
pub forced_first : (J : List Rule) (A : Set) (ws : List ℕ) → ((i : ℕ) → i < length ws → get_or ws i 0 ≡ i) → AreForced J A ws
forced_first J A ws own i T a has r = subst (λ v. get_or T v false ≡ true) (sym is) has
  where
    is : get_or ws i i ≡ i
    is = elim (cases_lt i (length ws)) [
      | inl inside ↦ get_or_default ws i i 0 inside ∙ own i inside
      | inr outside ↦ beyond ws i outside
    ]

pub forced_larger : (J : List Rule) (A C : Set) (ws : List ℕ) → within A C ≡ true → AreForced J A ws → AreForced J C ws
forced_larger J A C ws up f i T c has r = f i T (within_trans A C T up c) has r

pub forced_more : (J M : List Rule) (A : Set) (ws : List ℕ) → IsLonger J M → AreForced J A ws → AreForced M A ws
forced_more J M A ws more f i T a has r = f i T a has (more T r)

pub bounded_more : (J M : List Rule) (X Y Z : Set) → IsLonger J M → IsBounded J X Y → IsBounded M Y Z → IsBounded M X Z
bounded_more J M X Y Z more f g T x r = g T (f T x (more T r)) r

-- an attribute of the closure
pub forced_set : (J : List Rule) (A X C : Set) (ws : List ℕ) (i w : ℕ) → X ≡ set A i true → IsBounded J X C → get_or C w false ≡ true
    → AreForced J A ws → AreForced J A (set ws i w)
forced_set J A X C ws i w x bounded member f k T a has r = elim (cases_eq k i) [
  | inl here ↦ elim (cases_lt i (length ws)) [
    | inl inside ↦
        let is : get_or (set ws i w) k k ≡ w = ap (λ j. get_or (set ws i w) j k) here ∙ get_or-set_same ws i w k inside in
        subst (λ v. get_or T v false ≡ true) (sym is)
        (within_at_place C T (bounded T (subst (λ Y. within Y T ≡ true) (sym x)
        (set_within A T i a (subst (λ j. get_or T j false ≡ true) here has))) r) w member)
    | inr outside ↦ subst (λ v. get_or T v false ≡ true) (sym (beyond (set ws i w) k (omega (arith, outside, here, length-set ws i w)))) has
  ]
  | inr other ↦ subst (λ v. get_or T v false ≡ true) (sym (get_or-set_other ws i k w k other)) (f k T a has r)
]

-- what is forced before i and is missing
pub forced_differs : (J : List Rule) (A : Set) (ws : List ℕ) (i w : ℕ) → i < length A → AreForced J A ws → get_or ws i i ≡ w → w < i
    → get_or A w false ≡ false → Differs J i A (set A i true)
forced_differs J A ws i w inside f is lt lacks T h r = false_from_ne_true (agree_before i A T) (λ t.
    let has : get_or T i false ≡ true = within_at_place (set A i true) T h i (get_or-set_same A i true false inside) in
    let forced : get_or T w false ≡ true = subst (λ v. get_or T v false ≡ true) is
    (f i T (within_trans A (set A i true) T (within_set A i) h) has r) in
    false≢true (sym lacks ∙ agree_at i A T t w lt ∙ forced))
