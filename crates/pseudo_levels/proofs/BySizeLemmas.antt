-- Candidates by their size. A set that joins the sets of its size joins all; and of all sets those of one size are the sets of that
-- list, since in each other list all have another size.
use Rattle.std.proofs.Common.{◌≡◌, ◌≢◌, ℕ, zero, suc, ◌+◌, ◌<◌, ◌≤◌, Bool, true, false, ◌&&◌, cond, List, [], ◌∷◌, ◌++◌, map, length}
use Rattle.std.proofs.Common.{filter, get_or, set, replicate, refl, sym, ap, ap₂, ◌∙◌, subst, arith, inl, inr, eqb, eqb-true, eq-eqb}
use Rattle.std.proofs.Common.{ne_eqb, get_or-set_same, get_or-set_other}
use Rattle.std.proofs.lemmas.Bool.{false≢true, and_parts, and_from, or_cases, or_left, or_right, cases_eq}
use Rattle.std.proofs.lemmas.List.{append-nil, map-append, map-set, length-map, get_or-map}
use Rattle.std.proofs.lemmas.List.Folds.{list_all-append, list_any-append}
use Rattle.std.specs.List.{list_all, list_any}
use Rattle.std.specs.BTreeSet.{insert_key}
use Rattle.fca_model.specs.Sets.{Set, size, same, lectic_cmp}
use Rattle.fca_model.proofs.ListLemmas.{filter_all}
use Rattle.pseudo_levels.specs.Search.{Has, Grows}
use Rattle.pseudo_levels.specs.BySize.{together, AreBySize}
use Rattle.pseudo_levels.proofs.CandidateLemmas.{has_by_key, grows_by_key, list_all-insert_key}

-- ---- one list among the others

list_any-at : (p : Set → Bool) (Bs : List (List Set)) (k : ℕ) → list_any p (get_or Bs k []) ≡ true → list_any p (together Bs) ≡ true
list_any-at p [] k h = absurd (false≢true h)
list_any-at p (Xs ∷ Bs) zero h = list_any-append p Xs (together Bs) ∙ or_left (list_any p Xs) (list_any p (together Bs)) h
list_any-at p (Xs ∷ Bs) (suc k) h = list_any-append p Xs (together Bs)
    ∙ or_right (list_any p Xs) (list_any p (together Bs)) (list_any-at p Bs k h)

list_any-set : (p : Set → Bool) (Bs : List (List Set)) (k : ℕ) (Ys : List Set) → (list_any p (get_or Bs k []) ≡ true → list_any p Ys ≡ true)
    → list_any p (together Bs) ≡ true → list_any p (together (set Bs k Ys)) ≡ true
list_any-set p [] k Ys f h = h
list_any-set p (Xs ∷ Bs) zero Ys f h =
    list_any-append p Ys (together Bs) ∙ elim (or_cases (list_any p Xs) (list_any p (together Bs))
    (sym (list_any-append p Xs (together Bs)) ∙ h)) [
      | inl here ↦ or_left (list_any p Ys) (list_any p (together Bs)) (f here)
      | inr there ↦ or_right (list_any p Ys) (list_any p (together Bs)) there
    ]
list_any-set p (Xs ∷ Bs) (suc k) Ys f h =
    list_any-append p Xs (together (set Bs k Ys))
    ∙ elim (or_cases (list_any p Xs) (list_any p (together Bs)) (sym (list_any-append p Xs (together Bs)) ∙ h)) [
      | inl here ↦ or_left (list_any p Xs) (list_any p (together (set Bs k Ys))) here
      | inr there ↦ or_right (list_any p Xs) (list_any p (together (set Bs k Ys))) (list_any-set p Bs k Ys f there)
    ]

list_all-set : (p : Set → Bool) (Bs : List (List Set)) (k : ℕ) (Ys : List Set) → (list_all p (get_or Bs k []) ≡ true → list_all p Ys ≡ true)
    → list_all p (together Bs) ≡ true → list_all p (together (set Bs k Ys)) ≡ true
list_all-set p [] k Ys f h = h
list_all-set p (Xs ∷ Bs) zero Ys f h =
    let parts = and_parts (list_all p Xs) (list_all p (together Bs)) (sym (list_all-append p Xs (together Bs)) ∙ h) in
    list_all-append p Ys (together Bs) ∙ and_from (list_all p Ys) (list_all p (together Bs)) (f parts.0) parts.1
list_all-set p (Xs ∷ Bs) (suc k) Ys f h =
    let parts = and_parts (list_all p Xs) (list_all p (together Bs)) (sym (list_all-append p Xs (together Bs)) ∙ h) in
    list_all-append p Xs (together (set Bs k Ys))
    ∙ and_from (list_all p Xs) (list_all p (together (set Bs k Ys))) parts.0 (list_all-set p Bs k Ys f parts.1)

-- ---- one set more

pub grows_at : (n k : ℕ) (Bs : List (List Set)) (Ys : List Set) → Grows n (get_or Bs k []) Ys
    → Grows n (together Bs) (together (set Bs k Ys))
grows_at n k Bs Ys g = record {
  kept = λ p. list_any-set p Bs k Ys (g.kept p);
  wide = list_all-set (λ X. eqb (length X) n) Bs k Ys g.wide;
}

pub has_at : (A : Set) (k : ℕ) (Bs : List (List Set)) (Ys : List Set) → k < length Bs → Has A Ys → Has A (together (set Bs k Ys))
has_at A k Bs Ys lt h = list_any-at (same A) (set Bs k Ys) k (subst (λ Zs. Has A Zs) (sym (get_or-set_same Bs k Ys [] lt)) h)

pub by_size_more : (Bs : List (List Set)) (A : Set) (k : ℕ) (Ys : List Set) → AreBySize Bs → k < length Bs → k ≡ size A
    → Ys ≡ insert_key lectic_cmp (get_or Bs k []) A → AreBySize (set Bs k Ys)
by_size_more Bs A k Ys by lt e is = record {
  sized = λ j. elim (cases_eq j k) [
    | inl here ↦ subst (λ i. list_all (λ X. eqb (size X) i) (get_or (set Bs k Ys) i []) ≡ true) (sym here)
        (ap (list_all (λ (X : Set). eqb (size X) k)) (get_or-set_same Bs k Ys [] lt ∙ is)
        ∙ list_all-insert_key (λ X. eqb (size X) k) A (get_or Bs k []) (by.sized k) (eq-eqb (size A) k (sym e)))
    | inr other ↦ ap (list_all (λ (X : Set). eqb (size X) j)) (get_or-set_other Bs k j Ys [] other) ∙ by.sized j
  ];
}

-- a list that is put back changes nothing
set_back : (Bs : List (List Set)) (k : ℕ) → set Bs k (get_or Bs k []) ≡ Bs
set_back [] k = refl
set_back (Xs ∷ Bs) zero = refl
set_back (Xs ∷ Bs) (suc k) = ap (λ Cs. Xs ∷ Cs) (set_back Bs k)

module _ {V : Type 0} (f : V → List Set) (ts : List V) (k : ℕ) (t u : V) (by : AreBySize (map f ts)) (there : k < length ts)
    (at : t ≡ get_or ts k t) where
  inside : k < length (map f ts)
  inside = omega (arith, there, length-map ts f)

  list_at : get_or (map f ts) k [] ≡ f t
  list_at = get_or-map f ts k t [] there ∙ ap f (sym at)

  pub added_at : (A : Set) → k ≡ size A → f u ≡ insert_key lectic_cmp (f t) A
      → (AreBySize (map f (set ts k u))) × (Has A (together (map f (set ts k u))))
      × (Grows (length A) (together (map f ts)) (together (map f (set ts k u))))
  added_at A e is =
      let sets : set (map f ts) k (f u) ≡ map f (set ts k u) = sym (map-set f ts k u) in
      let more : f u ≡ insert_key lectic_cmp (get_or (map f ts) k []) A = is ∙ ap (λ Xs. insert_key lectic_cmp Xs A) (sym list_at) in (
        subst AreBySize sets (by_size_more (map f ts) A k (f u) by inside e more),
        subst (λ Cs. Has A (together Cs)) sets (has_at A k (map f ts) (f u) inside (has_by_key (get_or (map f ts) k []) (f u) A more)),
        subst (λ Cs. Grows (length A) (together (map f ts)) (together Cs)) sets
            (grows_at (length A) k (map f ts) (f u) (grows_by_key (get_or (map f ts) k []) (f u) A more)),
      )

  pub only_at : (A : Set) → f u ≡ insert_key lectic_cmp (f t) A → (p : Set → Bool) → list_all p (together (map f ts)) ≡ true → p A ≡ true
      → list_all p (together (map f (set ts k u))) ≡ true
  only_at A is p all one =
      let more : f u ≡ insert_key lectic_cmp (get_or (map f ts) k []) A = is ∙ ap (λ Xs. insert_key lectic_cmp Xs A) (sym list_at) in
      subst (λ Cs. list_all p (together Cs) ≡ true) (sym (map-set f ts k u))
      (list_all-set p (map f ts) k (f u) (λ h. ap (list_all p) more ∙ list_all-insert_key p A (get_or (map f ts) k []) h one) all)

  pub kept_at : f u ≡ f t → map f ts ≡ map f (set ts k u)
  kept_at is = sym (map-set f ts k u ∙ ap (set (map f ts) k) (is ∙ sym list_at) ∙ set_back (map f ts) k)

-- ---- an empty list more

more_at : (Bs : List (List Set)) (k : ℕ) → get_or (Bs ++ [] ∷ []) k [] ≡ get_or Bs k []
more_at [] zero = refl
more_at [] (suc k) = refl
more_at (Xs ∷ Bs) zero = refl
more_at (Xs ∷ Bs) (suc k) = more_at Bs k

more_together : (Bs : List (List Set)) → together (Bs ++ [] ∷ []) ≡ together Bs
more_together [] = refl
more_together (Xs ∷ Bs) = ap (λ Ys. Xs ++ Ys) (more_together Bs)

pub more_lists : {V : Type 0} (f : V → List Set) (ts us : List V) (t : V) → us ≡ ts ++ t ∷ [] → f t ≡ [] → map f us ≡ map f ts ++ [] ∷ []
more_lists f ts us t e none = ap (map f) e ∙ map-append f ts (t ∷ []) ∙ ap (λ Xs. map f ts ++ Xs ∷ []) none

-- the lists are those before, with an empty one put last
pub more_by_size : (Bs Cs : List (List Set)) → Cs ≡ Bs ++ [] ∷ [] → AreBySize Bs → AreBySize Cs
more_by_size Bs Cs e by = record {
  sized = λ k. ap (list_all (λ (X : Set). eqb (size X) k)) (ap (λ Ds. get_or Ds k []) e ∙ more_at Bs k)
      ∙ by.sized k;
}

pub more_same : (Bs Cs : List (List Set)) → Cs ≡ Bs ++ [] ∷ [] → together Cs ≡ together Bs
more_same Bs Cs e = ap together e ∙ more_together Bs

-- ---- the empty set alone

pub first_by_size : (Bs : List (List Set)) (A : Set) → Bs ≡ (A ∷ []) ∷ [] → size A ≡ 0 → AreBySize Bs
first_by_size Bs A e none = record { sized = λ k. ap (λ Cs. list_all (λ X. eqb (size X) k) (get_or Cs k [])) e ∙ each k }
  where
    each : (k : ℕ) → list_all (λ X. eqb (size X) k) (get_or ((A ∷ []) ∷ []) k []) ≡ true
    each zero = ap (λ b. b && true) (eq-eqb (size A) 0 none)
    each (suc k) = refl

-- ---- the sets of one size

filter-append : (p : Set → Bool) (Xs Ys : List Set) → filter p (Xs ++ Ys) ≡ filter p Xs ++ filter p Ys
filter-append p [] Ys = refl
filter-append p (X ∷ Xs) Ys = elim (p X) as (λ b. cond b (X ∷ filter p (Xs ++ Ys)) (filter p (Xs ++ Ys)) ≡ cond b (X ∷ filter p Xs)
    (filter p Xs) ++ filter p Ys) [
      | true ↦ ap (λ Zs. X ∷ Zs) (filter-append p Xs Ys)
      | false ↦ filter-append p Xs Ys
    ]

-- sets of another size
filter-other : (j k : ℕ) (Xs : List Set) → j ≢ k → list_all (λ X. eqb (size X) j) Xs ≡ true → filter (λ X. eqb (size X) k) Xs ≡ []
filter-other j k [] other h = refl
filter-other j k (X ∷ Xs) other h =
    let parts = and_parts (eqb (size X) j) (list_all (λ X. eqb (size X) j) Xs) h in
    let e = eqb-true (size X) j parts.0 in
    ap (λ b. cond b (X ∷ filter (λ X. eqb (size X) k) Xs) (filter (λ X. eqb (size X) k) Xs)) (ne_eqb (size X) k (λ s. other (sym e ∙ s)))
    ∙ filter-other j k Xs other parts.1

-- lists of sets of the sizes from j on, without the first
next : (j : ℕ) (Xs : List Set) (Bs : List (List Set)) → ((i : ℕ) → list_all (λ X. eqb (size X) (j + i)) (get_or (Xs ∷ Bs) i []) ≡ true)
    → (i : ℕ) → list_all (λ X. eqb (size X) (suc j + i)) (get_or Bs i []) ≡ true
next j Xs Bs sized i = let e : j + suc i ≡ suc j + i = omega arith in
    subst (λ m. list_all (λ X. eqb (size X) m) (get_or Bs i []) ≡ true) e (sized (suc i))

-- lists of sets of the sizes from j on
filter-below : (j k : ℕ) (Bs : List (List Set)) → k < j → ((i : ℕ) → list_all (λ X. eqb (size X) (j + i)) (get_or Bs i []) ≡ true)
    → filter (λ X. eqb (size X) k) (together Bs) ≡ []
filter-below j k [] lt sized = refl
filter-below j k (Xs ∷ Bs) lt sized =
    filter-append (λ X. eqb (size X) k) Xs (together Bs)
    ∙ ap₂ (λ Ys Zs. Ys ++ Zs) (filter-other (j + 0) k Xs (λ e. absurd (omega arith)) (sized 0))
    (filter-below (suc j) k Bs (omega arith) (next j Xs Bs sized))

filter-at : (j i : ℕ) (Bs : List (List Set)) → ((i : ℕ) → list_all (λ X. eqb (size X) (j + i)) (get_or Bs i []) ≡ true)
    → filter (λ X. eqb (size X) (j + i)) (together Bs) ≡ get_or Bs i []
filter-at j i [] sized = refl
filter-at j zero (Xs ∷ Bs) sized =
    filter-append (λ X. eqb (size X) (j + 0)) Xs (together Bs)
    ∙ ap₂ (λ Ys Zs. Ys ++ Zs) (filter_all (λ X. eqb (size X) (j + 0)) Xs (sized 0))
    (filter-below (suc j) (j + 0) Bs (omega arith) (next j Xs Bs sized)) ∙ append-nil Xs
filter-at j (suc i) (Xs ∷ Bs) sized =
    let e : suc j + i ≡ j + suc i = omega arith in
    filter-append (λ X. eqb (size X) (j + suc i)) Xs (together Bs)
    ∙ ap₂ (λ Ys Zs. Ys ++ Zs) (filter-other (j + 0) (j + suc i) Xs (λ e. absurd (omega arith)) (sized 0))
    (subst (λ m. filter (λ X. eqb (size X) m) (together Bs) ≡ get_or Bs i []) e (filter-at (suc j) i Bs (next j Xs Bs sized)))

pub filter-together : (Bs : List (List Set)) (k : ℕ) → AreBySize Bs → filter (λ X. eqb (size X) k) (together Bs) ≡ get_or Bs k []
filter-together Bs k by =
    let none : (i : ℕ) → i ≡ 0 + i = λ i. omega arith in
    subst (λ m. filter (λ X. eqb (size X) m) (together Bs) ≡ get_or Bs k []) (sym (none k))
    (filter-at 0 k Bs (λ i. subst (λ m. list_all (λ X. eqb (size X) m) (get_or Bs i []) ≡ true) (none i) (by.sized i)))

pub sets_at : {V : Type 0} (f : V → List Set) (ts : List V) (k : ℕ) (t : V) → AreBySize (map f ts) → k < length ts → t ≡ get_or ts k t
    → f t ≡ filter (λ X. eqb (size X) k) (together (map f ts))
sets_at f ts k t by lt at = sym (filter-together (map f ts) k by ∙ get_or-map f ts k t [] lt ∙ ap f (sym at))

pub sets_past : {V : Type 0} (f : V → List Set) (ts : List V) (k : ℕ) → AreBySize (map f ts) → length ts ≤ k
    → [] ≡ filter (λ X. eqb (size X) k) (together (map f ts))
sets_past f ts k by le = sym (filter-together (map f ts) k by ∙ past (map f ts) k (omega (arith, le, length-map ts f)))
  where
    past : (Bs : List (List Set)) (i : ℕ) → length Bs ≤ i → get_or Bs i [] ≡ []
    past [] i h = refl
    past (Xs ∷ Bs) zero h = absurd (omega arith)
    past (Xs ∷ Bs) (suc i) h = past Bs i (omega arith)

pub size_none : (n : ℕ) → 0 ≡ size (replicate n false)
size_none zero = refl
size_none (suc n) = omega (arith, size_none n)
