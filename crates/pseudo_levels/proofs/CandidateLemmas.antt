-- Sets put among candidates. A set that is inserted into a list in lectic order is there afterwards, and so is all that was there.
use Rattle.std.proofs.Common.{◌≡◌, ℕ, ◌+◌, ◌<◌, Bool, true, false, ◌||◌, List, [], ◌∷◌, ◌++◌, length, get_or, set, take, refl, sym, ap, ◌∙◌}
use Rattle.std.proofs.Common.{subst, arith, inl, inr, Ordering, Less, Equal, Greater, eqb, eqb-true, eq-eqb}
use Rattle.std.proofs.lemmas.Bool.{false≢true, and_parts, and_from, cases_lt, or_cases, or_left, or_right}
use Rattle.std.proofs.lemmas.List.{take_more}
use Rattle.std.proofs.lemmas.List.Folds.{list_any-append}
use Rattle.std.proofs.lemmas.List.Sums.{AllPass-from_list_all}
use Rattle.std.specs.List.{list_all, list_any, AllByRecursion}
use Rattle.std.specs.List.Sorted.{IsStrictlySortedBy}
use Rattle.std.specs.Ordering.{is_lt, match_ordering}
use Rattle.std.specs.BTreeSet.{insert_key}
use Rattle.fca_model.specs.Sets.{Set, same, increasing, lectic_cmp}
use Rattle.fca_model.proofs.SetLemmas.{same_refl, same-true, lectic_equal}
use Rattle.fca_model.proofs.ListLemmas.{list_any-mono}
use Rattle.pseudo_levels.specs.Search.{Has, HasLarger, HaveLarger, AreWide, Grows}

-- ---- the keys of a tree

list_any-insert_key : (p : Set → Bool) (A : Set) (Xs : List Set) → list_any p Xs ≡ true → list_any p (insert_key lectic_cmp Xs A) ≡ true
list_any-insert_key p A [] h = absurd (false≢true h)
list_any-insert_key p A (X ∷ Xs) h = elim (lectic_cmp A X) as (λ o. list_any p
    (match_ordering o (A ∷ X ∷ Xs) (X ∷ Xs) (X ∷ insert_key lectic_cmp Xs A)) ≡ true) [
      | Less ↦ or_right (p A) (list_any p (X ∷ Xs)) h
      | Equal ↦ h
      | Greater ↦ elim (or_cases (p X) (list_any p Xs) h) [
        | inl here ↦ or_left (p X) (list_any p (insert_key lectic_cmp Xs A)) here
        | inr there ↦ or_right (p X) (list_any p (insert_key lectic_cmp Xs A)) (list_any-insert_key p A Xs there)
      ]
    ]

has-insert_key : (A : Set) (Xs : List Set) → Has A (insert_key lectic_cmp Xs A)
has-insert_key A [] = or_left (same A A) false (same_refl A)
has-insert_key A (X ∷ Xs) = go (lectic_cmp A X) refl (has-insert_key A Xs)
  where
    go : (o : Ordering) → lectic_cmp A X ≡ o → Has A (insert_key lectic_cmp Xs A)
        → list_any (same A) (match_ordering o (A ∷ X ∷ Xs) (X ∷ Xs) (X ∷ insert_key lectic_cmp Xs A)) ≡ true
    go Less e rest = or_left (same A A) (list_any (same A) (X ∷ Xs)) (same_refl A)
    go Equal e rest = or_left (same A X) (list_any (same A) Xs) (ap (same A) (sym (lectic_equal A X e)) ∙ same_refl A)
    go Greater e rest = or_right (same A X) (list_any (same A) (insert_key lectic_cmp Xs A)) rest

pub list_all-insert_key : (p : Set → Bool) (A : Set) (Xs : List Set) → list_all p Xs ≡ true → p A ≡ true
    → list_all p (insert_key lectic_cmp Xs A) ≡ true
list_all-insert_key p A [] h t = and_from (p A) true t refl
list_all-insert_key p A (X ∷ Xs) h t =
    let parts = and_parts (p X) (list_all p Xs) h in
    elim (lectic_cmp A X) as (λ o. list_all p (match_ordering o (A ∷ X ∷ Xs) (X ∷ Xs) (X ∷ insert_key lectic_cmp Xs A)) ≡ true) [
      | Less ↦ and_from (p A) (list_all p (X ∷ Xs)) t h
      | Equal ↦ h
      | Greater ↦ and_from (p X) (list_all p (insert_key lectic_cmp Xs A)) parts.0 (list_all-insert_key p A Xs parts.1 t)
    ]

-- ---- more candidates

pub grows_refl : (n : ℕ) (Xs : List Set) → Grows n Xs Xs
grows_refl n Xs = record { kept = λ p h. h; wide = λ w. w }

pub grows_trans : (n : ℕ) (old mid new : List Set) → Grows n old mid → Grows n mid new → Grows n old new
grows_trans n old mid new a b = record { kept = λ p h. b.kept p (a.kept p h); wide = λ w. b.wide (a.wide w) }

pub grows_by_key : (old new : List Set) (A : Set) → new ≡ insert_key lectic_cmp old A → Grows (length A) old new
grows_by_key old new A e = record {
  kept = λ p h. subst (λ Zs. list_any p Zs ≡ true) (sym e) (list_any-insert_key p A old h);
  wide = λ w. subst (λ Zs. AreWide (length A) Zs) (sym e)
      (list_all-insert_key (λ X. eqb (length X) (length A)) A old w (eq-eqb (length A) (length A) refl));
}

pub has_by_key : (old new : List Set) (A : Set) → new ≡ insert_key lectic_cmp old A → Has A new
has_by_key old new A e = subst (λ Zs. Has A Zs) (sym e) (has-insert_key A old)

-- what is among them passes for any of them
pub any_has : (p : Set → Bool) (A : Set) (Xs : List Set) → Has A Xs → p A ≡ true → list_any p Xs ≡ true
any_has p A Xs h t = list_any-mono (same A) p (λ X e. ap p (sym (same-true A X e)) ∙ t) Xs h

-- ---- with one attribute more

pub larger_none : (C : Set) (Xs : List Set) → HasLarger C 0 Xs
larger_none C Xs i l = absurd (omega arith)

pub larger_more : (n : ℕ) (mid new : List Set) (C X : Set) (m : ℕ) → HasLarger C m mid → Grows n mid new → X ≡ set C m true → Has X new
    → HasLarger C (m + 1) new
larger_more n mid new C X m g more is has i l f = elim (cases_lt i m) [
  | inl lt ↦ more.kept (same (set C i true)) (g i lt f)
  | inr le ↦ let e : i ≡ m = omega arith in subst (λ Z. Has Z new) (is ∙ ap (λ j. set C j true) (sym e)) has
]

pub larger_skips : (Xs : List Set) (C : Set) (m : ℕ) → HasLarger C m Xs → get_or C m false ≡ true → HasLarger C (m + 1) Xs
larger_skips Xs C m g t i l f = elim (cases_lt i m) [
  | inl lt ↦ g i lt f
  | inr le ↦ let e : i ≡ m = omega arith in absurd (false≢true (sym f ∙ ap (λ j. get_or C j false) e ∙ t))
]

pub larger_one : (n i : ℕ) (Cs mid new : List Set) (C : Set) → i < length Cs → C ≡ get_or Cs i C → Grows n mid new
    → HaveLarger (take i Cs) mid → HasLarger C (length C) new → HaveLarger (take (i + 1) Cs) new
larger_one n i Cs mid new C l is more all one D h j lt f =
    let split = sym (list_any-append (same D) (take i Cs) (C ∷ []))
    ∙ ap (λ Zs. list_any (same D) Zs) (sym (take_more Cs i C l ∙ ap (λ Y. take i Cs ++ Y ∷ []) (sym is))) ∙ h in
    elim (or_cases (list_any (same D) (take i Cs)) (same D C || false) split) [
      | inl first ↦ more.kept (same (set D j true)) (all D first j lt f)
      | inr here ↦ elim (or_cases (same D C) false here) [
        | inl e ↦
            let d = same-true D C e in
            subst (λ Z. Has (set Z j true) new) (sym d) (one j (subst (λ Z. j < length Z) d lt) (subst (λ Z. get_or Z j false ≡ false) d f))
        | inr other ↦ absurd (false≢true other)
      ]
    ]

-- the set at a place has the width of all
pub wide_at : (n i : ℕ) (Cs : List Set) (C : Set) → AreWide n Cs → i < length Cs → C ≡ get_or Cs i C → length C ≡ n
wide_at n i Cs C w l is = eqb-true (length C) n
    (ap (λ (Y : Set). eqb (length Y) n) is ∙ AllPass-from_list_all (λ (Y : Set). eqb (length Y) n) Cs w i C l)
