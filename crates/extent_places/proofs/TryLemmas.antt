-- If no object of A has attribute i, the closure of A with i is the full set. So no child comes from i, unless i is the first attribute
-- that A lacks.
use Rattle.std.proofs.Common.{◌≡◌, ◌≢◌, ℕ, zero, suc, ◌+◌, ◌-◌, ◌<◌, ◌≤◌, Bool, true, false, not, ◌&&◌, take, Some, List, [], ◌∷◌, All}
use Rattle.std.proofs.Common.{length, filter, get_or, set, refl, sym, ap, ◌∙◌, subst, arith, inl, inr, get_or-set_same, get_or-set_other}
use Rattle.std.specs.Prelude.{fold}
use Rattle.std.proofs.lemmas.Bool.{false≢true, cases_eq, or_parts}
use Rattle.std.proofs.lemmas.Option.{same_Some}
use Rattle.std.proofs.lemmas.List.{take_more, get_or_read}
use Rattle.std.proofs.lemmas.List.Elements.{All-head, All-tail, All-nil, All-cons, All-append}
use Rattle.fca_model.specs.Sets.{Set, meet, join, full}
use Rattle.attr_bits.specs.Difference.{minus}
use Rattle.fca_model.specs.Context.{Context, closure, extent}
use Rattle.fca_model.specs.Exploration.{first_missing}
use Rattle.fca_model.proofs.SetLemmas.{get_or-full, get_or-join}
use Rattle.attr_bits.proofs.DifferenceLemmas.{get_or-minus}
use Rattle.lectic_concepts.specs.Branches.{branch}
use Rattle.lectic_concepts.proofs.FailureLemmas.{at_member, at_none}
use Rattle.extent_places.specs.Places.{has_at, rows_at}
use Rattle.extent_places.specs.Tries.{AreAttributesToTry, LacksBetween}
use Rattle.extent_places.proofs.PlaceLemmas.{rows_at-extent, extent_with}

filter_none : (p : ℕ → Bool) (xs : List ℕ) → All (λ x. p x ≡ false) xs → filter p xs ≡ []
filter_none p [] h = refl
filter_none p (x ∷ xs) h = rw (All-head (λ y. p y ≡ false) x xs h) (filter_none p xs (All-tail (λ y. p y ≡ false) x xs h))

-- the closure of A with an attribute that no object of A has
pub closure-without_object : (K : Context) (A : Set) (i : ℕ) → i < length A → All (λ p. has_at K.rows i p ≡ false) (extent K A)
    → closure K (set A i true) ≡ full K.width
closure-without_object K A i inside none =
    let nobody : extent K (set A i true) ≡ [] = sym (extent_with K A i inside) ∙ filter_none (has_at K.rows i) (extent K A) none in
    ap (λ (Rs : List Set). fold meet (full K.width) Rs) (sym (rows_at-extent K (set A i true)) ∙ ap (rows_at K.rows) nobody)

-- the row at the next place is joined
pub joined_more : (Rs : List Set) (J N R : Set) (n : ℕ) (places : List ℕ) (k : ℕ) → k < length places → get_or places k 0 < length Rs
    → length J ≡ n → R ≡ get_or Rs (get_or places k 0) R → N ≡ join J R
    → ((i : ℕ) → i < n → get_or J i false ≡ false → All (λ p. has_at Rs i p ≡ false) (take k places))
    → (i : ℕ) → i < n → get_or N i false ≡ false → All (λ p. has_at Rs i p ≡ false) (take (k + 1) places)
joined_more Rs J N R n places k more inside wide is with_it before i below lacks =
    let parts = or_parts (get_or J i false) (get_or R i false)
    (sym (get_or-join J R i (omega (arith, wide, below))) ∙ ap (λ X. get_or X i false) (sym with_it) ∙ lacks) in
    let here : has_at Rs i (get_or places k 0) ≡ false =
    ap (λ X. get_or X i false) (sym (get_or_read Rs (get_or places k 0) R inside is [])) ∙ parts.1 in
    subst (All (λ p. has_at Rs i p ≡ false)) (sym (take_more places k 0 more))
    (All-append (λ p. has_at Rs i p ≡ false) (take k places) (get_or places k 0 ∷ []) (before i below parts.0)
    (All-cons (λ p. has_at Rs i p ≡ false) (get_or places k 0) [] here (All-nil (λ p. has_at Rs i p ≡ false))))

module _ (K : Context) (A : Set) (wide : length A ≡ K.width) where
  -- what is not left of a set that A was taken from is a member of A, or not in it
  taken : (U : Set) (i : ℕ) → get_or (minus U A) i false ≡ false
      → (get_or U i false ≡ false → get_or A i false ≡ false → branch K A i ≡ branch K A (i + 1)) → branch K A i ≡ branch K A (i + 1)
  taken U i gone otherwise = cases (get_or U i false) (get_or A i false) refl refl (sym (get_or-minus U A i) ∙ gone)
    where
      cases : (u a : Bool) → get_or U i false ≡ u → get_or A i false ≡ a → (u && not a) ≡ false → branch K A i ≡ branch K A (i + 1)
      cases u true eu ea h = at_member K A i ea
      cases true false eu ea h = absurd (false≢true (sym h))
      cases false false eu ea h = otherwise eu ea

  pub all_tries : (T : Set) → T ≡ minus (full K.width) A → AreAttributesToTry K A T
  all_tries T is i inside gone = taken (full K.width) i (ap (λ X. get_or X i false) (sym is) ∙ gone)
      (λ u a. absurd (false≢true (sym u ∙ get_or-full K.width i inside)))

  -- J has all attributes of objects of A, and U those of J and the first that A lacks
  pub few_tries : (J U T : Set) → ((i : ℕ) → i < K.width → get_or J i false ≡ false → All (λ p. has_at K.rows i p ≡ false) (extent K A))
      → ((i : ℕ) → i < K.width → get_or U i false ≡ false → (get_or J i false ≡ false) × (first_missing 0 (full K.width) A ≢ Some i))
      → T ≡ minus U A → AreAttributesToTry K A T
  few_tries J U T rest parts is i inside gone = taken U i (ap (λ X. get_or X i false) (sym is) ∙ gone) (λ u a.
      let p = parts i inside u in
      at_none K A i a wide inside (full K.width) (sym (closure-without_object K A i (omega (arith, wide, inside)) (rest i inside p.0))) p.1)

-- a set, and the same with one member more
pub with_first : (K : Context) (A J U : Set) (k : ℕ) → first_missing 0 (full K.width) A ≡ Some k → k < length J → U ≡ set J k true
    → (i : ℕ) → get_or U i false ≡ false → (get_or J i false ≡ false) × (first_missing 0 (full K.width) A ≢ Some i)
with_first K A J U k first inside is i lacks = elim (cases_eq i k) [
  | inl here ↦ absurd (false≢true (sym lacks ∙ ap (λ X. get_or X i false) is ∙ ap (λ j. get_or (set J k true) j false) here
      ∙ get_or-set_same J k true false inside))
  | inr other ↦ (
    sym (get_or-set_other J k i true false other) ∙ ap (λ X. get_or X i false) (sym is) ∙ lacks,
    λ e. other (same_Some i k (sym e ∙ first)),
  )
]

-- ---- gaps

-- the branches of two attributes are the same if T lacks the attributes between
pub branch-between : (K : Context) (A T : Set) (from end : ℕ) → AreAttributesToTry K A T → from ≤ end → end ≤ K.width → LacksBetween T from end
    → branch K A from ≡ branch K A end
branch-between K A T from end tries le inside lacks = go (end - from) from refl le lacks
  where
    go : (n k : ℕ) → end - k ≡ n → k ≤ end → LacksBetween T k end → branch K A k ≡ branch K A end
    go zero k e l h = ap (branch K A) (omega (arith, e, l))
    go (suc n) k e l h =
        tries k (omega (arith, e, inside)) (h k (omega arith) (omega (arith, e)))
        ∙ go n (k + 1) (omega (arith, e)) (omega (arith, e)) (λ i at before. h i (omega (arith, at)) before)

-- the branch behind a member is that behind the members that come next
pub branch-behind : (K J : Context) (A T : Set) (i end : ℕ) → J ≡ K → AreAttributesToTry J A T → i < end → end ≤ K.width → LacksBetween T (i + 1) end
    → branch K A (i + 1) ≡ branch K A end
branch-behind K J A T i end same tries before inside lacks =
    branch-between K A T (i + 1) end (subst (λ (X : Context). AreAttributesToTry X A T) same tries) (omega (arith, before)) inside lacks
