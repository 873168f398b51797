-- Why an index misses no member that a set breaks. The premise of a member has both attributes of its bucket, so a set that takes the
-- premise in has them too, and looks into the bucket. In a bucket whose attributes the set has not, no premise lies within the set.
use Rattle.std.proofs.Common.{◌≡◌, ℕ, zero, suc, ◌+◌, ◌*◌, ◌/◌, ◌%◌, ◌<◌, ◌≤◌, Bool, true, false, not, ◌&&◌, ◌||◌, cond, Option, Some, None}
use Rattle.std.proofs.Common.{Result, Ok, Err, OnErr, MatchOption, List, [], ◌∷◌, ◌++◌, length, map, get_or, set, find, refl}
use Rattle.std.proofs.Common.{get_or-set_same, get_or-set_other, sym, ap, ◌∙◌, subst, arith, inl, inr, eqb, eqb-true, leb, leb-true}
use Rattle.std.proofs.Math.Nat.{mul-add-mod_self_right, mod-eq_of_lt}
use Rattle.std.proofs.lemmas.Nat.{div-mul-add, div-add-mod'}
use Rattle.std.proofs.lemmas.Bool.{le-leb, false≢true, and_parts, and_from, cases_Bool, cases_lt, cases_eq}
use Rattle.std.proofs.lemmas.List.{map-set, length-map, get_or-map}
use Rattle.std.proofs.lemmas.List.Folds.{list_all-append}
use Rattle.std.specs.List.{list_all}
use Rattle.fca_model.specs.Sets.{Set, within, strictly_within, same, IsNextMember}
use Rattle.fca_model.specs.Implications.{Rule}
use Rattle.fca_model.specs.Levels.{absorbs_all}
use Rattle.fca_model.proofs.SetLemmas.{within_at_place}
use Rattle.fca_model.proofs.ListLemmas.{implies_from, list_all-mono}
use Rattle.implication_closure.specs.Closing.{has_width, HaveWidth}
use Rattle.pseudo_levels.specs.Index.{breaks_below, IsBroken, bucket, meets, IsFiled, IsBrokenIn, IsPut}

-- ---- the first element that passes

find_none : {X : Type 0} (p : X → Bool) (xs : List X) → find p xs ≡ None → list_all (λ x. not (p x)) xs ≡ true
find_none {X = X} p [] h = refl
find_none {X = X} p (x ∷ xs) h = go (p x) h (find_none p xs)
  where
    go : (b : Bool) → cond b (Some x) (find p xs) ≡ None → (find p xs ≡ None → list_all (λ x. not (p x)) xs ≡ true)
        → (not b && list_all (λ x. not (p x)) xs) ≡ true
    go true e rest = absurd (some_none e)
      where
        some_none : Some x ≡ None → ⊥
        some_none e = cc
    go false e rest = rest e

find_some : {X : Type 0} (p : X → Bool) (xs : List X) (y : X) → find p xs ≡ Some y
    → (p y ≡ true) × ((q : X → Bool) → list_all q xs ≡ true → q y ≡ true)
find_some {X = X} p [] y h = absurd (none_some h)
  where
    none_some : {Y : Type 0} {y : Y} → None ≡ Some y → ⊥
    none_some e = cc
find_some {X = X} p (x ∷ xs) y h = go (p x) refl h (find_some p xs y)
  where
    same_some : {Y : Type 0} {x y : Y} → Some x ≡ Some y → x ≡ y
    same_some e = cc

    go : (b : Bool) → p x ≡ b → cond b (Some x) (find p xs) ≡ Some y
        → (find p xs ≡ Some y → (p y ≡ true) × ((q : X → Bool) → list_all q xs ≡ true → q y ≡ true))
        → (p y ≡ true) × ((q : X → Bool) → list_all q (x ∷ xs) ≡ true → q y ≡ true)
    go true t e rest =
        let is : x ≡ y = same_some e in
        (ap p (sym is) ∙ t, λ q a. ap q (sym is) ∙ (and_parts (q x) (list_all q xs) a).0)
    go false f e rest =
        let more = rest e in
        (more.0, λ q a. more.1 q (and_parts (q x) (list_all q xs) a).1)

-- ---- one bucket

pub absorbs_unbroken : (X : Set) (is : List Rule) → find (breaks_below X) is ≡ None → absorbs_all is X ≡ true
absorbs_unbroken X is none =
    list_all-mono (λ i. not (breaks_below X i)) (λ i. not (strictly_within i.premise X) || within i.conclusion X)
    (λ i h. unbroken (strictly_within i.premise X) (within i.conclusion X) h) is (find_none (breaks_below X) is none)
  where
    unbroken : (a b : Bool) → not (a && not b) ≡ true → (not a || b) ≡ true
    unbroken true true h = refl
    unbroken true false h = h
    unbroken false b h = refl

pub broken_in_bucket : (Bs : List (List Rule)) (s : ℕ) (X : Set) (i : Rule) → find (breaks_below X) (bucket s Bs) ≡ Some i
    → IsBrokenIn Bs X i
broken_in_bucket Bs s X i e =
    let there = find_some (breaks_below X) (bucket s Bs) i e in
    record { broken = there.0; filed = λ p h. there.1 p (h s) }

-- ---- the buckets of a set

meets_within : (n s : ℕ) (P X : Set) → within P X ≡ true → meets n s P ≡ true → meets n s X ≡ true
meets_within n zero P X inside h = refl
meets_within n (suc s) P X inside h =
    let a = s / n in
    let b = s % n in
    let parts = and_parts (leb a b) (get_or P a false && get_or P b false) h in
    let both = and_parts (get_or P a false) (get_or P b false) parts.1 in
    and_from (leb a b) (get_or X a false && get_or X b false) parts.0
    (and_from (get_or X a false) (get_or X b false) (within_at_place P X inside a both.0) (within_at_place P X inside b both.1))

-- a set with two attributes has those of their bucket
pub meets_pair : (n a b s : ℕ) (P : Set) → s ≡ suc (a * n + b) → a ≤ b → b < n → get_or P a false ≡ true → get_or P b false ≡ true
    → meets n s P ≡ true
meets_pair n a b s P e le lt first second =
    let quotient : (a * n + b) / n ≡ a = div-mul-add a n b lt in
    let rest : (a * n + b) % n ≡ b = mul-add-mod_self_right a n b ∙ mod-eq_of_lt lt in
    rw (e, quotient, rest, le-leb a b le, first, second) refl

-- where the set has not the attributes of the bucket, it breaks nothing in it
absorbs_unmet : (n s : ℕ) (X : Set) (is : List Rule) → list_all (λ i. meets n s i.premise) is ≡ true → meets n s X ≡ false
    → absorbs_all is X ≡ true
absorbs_unmet n s X is all f =
    list_all-mono (λ i. meets n s i.premise) (λ i. not (strictly_within i.premise X) || within i.conclusion X)
    (λ i m. implies_from (strictly_within i.premise X) (within i.conclusion X)
    (λ inside. absurd (false≢true (sym f ∙ meets_within n s i.premise X
    (and_parts (within i.premise X) (not (same i.premise X)) inside).0 m)))) is all

absorbs_all_filed : (n : ℕ) (J : List Rule) (Bs : List (List Rule)) (X : Set) → IsFiled n J Bs → find (breaks_below X) (bucket 0 Bs) ≡ None
    → ((a b : ℕ) → a ≤ b → get_or X a false ≡ true → get_or X b false ≡ true → absorbs_all (bucket (suc (a * n + b)) Bs) X ≡ true)
    → absorbs_all J X ≡ true
absorbs_all_filed n J Bs X filed first pairs =
    filed.complete (λ i. not (strictly_within i.premise X) || within i.conclusion X) (λ s. elim (cases_Bool (meets n s X)) [
      | inl met ↦ each s met
      | inr unmet ↦ absorbs_unmet n s X (bucket s Bs) (filed.sorted s) unmet
    ])
  where
    each : (s : ℕ) → meets n s X ≡ true → absorbs_all (bucket s Bs) X ≡ true
    each zero met = absorbs_unbroken X (bucket 0 Bs) first
    each (suc s) met =
        let a = s / n in
        let b = s % n in
        let parts = and_parts (leb a b) (get_or X a false && get_or X b false) met in
        let both = and_parts (get_or X a false) (get_or X b false) parts.1 in
        let e : suc (a * n + b) ≡ suc s = ap suc (div-add-mod' s n) in
        subst (λ t. absorbs_all (bucket t Bs) X ≡ true) e (pairs a b (leb-true a b parts.0) both.0 both.1)

broken_filed : (n : ℕ) (J : List Rule) (Bs : List (List Rule)) (X : Set) (i : Rule) → IsFiled n J Bs → IsBrokenIn Bs X i → IsBroken J X i
broken_filed n J Bs X i filed b = record { broken = b.broken; member = λ p h. b.filed p (filed.sound p h) }

-- ---- from one member of a set to the next

pub next_reached : (Q : ℕ → Type 0) (X : Set) (lo from m : ℕ) → IsNextMember X from m
    → ((b : ℕ) → lo ≤ b → b < from → get_or X b false ≡ true → Q b) → Q m
    → (b : ℕ) → lo ≤ b → b < m + 1 → get_or X b false ≡ true → Q b
next_reached Q X lo from m next before here b le lt t = elim (cases_lt b from) [
  | inl early ↦ before b le early t
  | inr late ↦ elim (cases_lt b m) [
    | inl between ↦ absurd (false≢true (sym (next.least b late between) ∙ t))
    | inr past ↦ let e : m ≡ b = omega arith in subst Q e here
  ]
]

pub all_reached : (Q : ℕ → Type 0) (X : Set) (lo from : ℕ) → ((b : ℕ) → from ≤ b → b < length X → get_or X b false ≡ false)
    → ((b : ℕ) → lo ≤ b → b < from → get_or X b false ≡ true → Q b)
    → (b : ℕ) → lo ≤ b → get_or X b false ≡ true → Q b
all_reached Q X lo from none before b le t = elim (cases_lt b from) [
  | inl early ↦ before b le early t
  | inr late ↦ elim (cases_lt b (length X)) [
    | inl between ↦ absurd (false≢true (sym (none b late between) ∙ t))
    | inr past ↦ absurd (false≢true (sym (get_or_past X b past) ∙ t))
  ]
]
  where
    get_or_past : (A : Set) (i : ℕ) → length A ≤ i → get_or A i false ≡ false
    get_or_past [] i h = refl
    get_or_past (a ∷ A) zero h = absurd (omega arith)
    get_or_past (a ∷ A) (suc i) h = get_or_past A i (omega arith)

-- ---- one member more

pub filed_none : (n : ℕ) → IsFiled n [] []
filed_none n = record { complete = λ p h. refl; sound = λ p h s. refl; sorted = λ s. refl }

pub filed_same : (n : ℕ) (J : List Rule) (old new : List (List Rule)) → IsFiled n J old → ((s : ℕ) → bucket s new ≡ bucket s old)
    → IsFiled n J new
filed_same n J old new filed e = record {
  complete = λ p h. filed.complete p (λ s. ap (list_all p) (sym (e s)) ∙ h s);
  sound = λ p h s. ap (list_all p) (e s) ∙ filed.sound p h s;
  sorted = λ s. ap (list_all (λ (i : Rule). meets n s i.premise)) (e s) ∙ filed.sorted s;
}

pub filed_more : (n : ℕ) (J : List Rule) (old new : List (List Rule)) (i : Rule) → IsFiled n J old → IsPut n old new i
    → IsFiled n (J ++ i ∷ []) new
filed_more n J old new i filed put = record {
  complete = λ p h. list_all-append p J (i ∷ []) ∙ and_from (list_all p J) (p i && true)
      (filed.complete p (λ s. elim (cases_eq s put.place) [
        | inl e ↦ subst (λ t. list_all p (bucket t old) ≡ true) (sym e) (of_new p h).0
        | inr other ↦ ap (list_all p) (sym (put.elsewhere s other)) ∙ h s
      ])) (of_new p h).1;
  sound = λ p h. each p (λ s. filed.sound p (and_parts (list_all p J) (p i && true) (sym (list_all-append p J (i ∷ [])) ∙ h)).0 s)
      (and_parts (list_all p J) (p i && true) (sym (list_all-append p J (i ∷ [])) ∙ h)).1;
  sorted = λ s. elim (cases_eq s put.place) [
    | inl e ↦ subst (λ t. list_all (λ (i : Rule). meets n t i.premise) (bucket t new) ≡ true) (sym e)
        (at_place (λ (i : Rule). meets n put.place i.premise) (filed.sorted put.place)
        (and_from (meets n put.place i.premise) true put.met refl))
    | inr other ↦ ap (list_all (λ (i : Rule). meets n s i.premise)) (put.elsewhere s other) ∙ filed.sorted s
  ];
}
  where
    split : (p : Rule → Bool) → list_all p (bucket put.place new) ≡ (list_all p (bucket put.place old) && (p i && true))
    split p = ap (list_all p) put.here ∙ list_all-append p (bucket put.place old) (i ∷ [])

    of_new : (p : Rule → Bool) → ((s : ℕ) → list_all p (bucket s new) ≡ true)
        → (list_all p (bucket put.place old) ≡ true) × ((p i && true) ≡ true)
    of_new p h = and_parts (list_all p (bucket put.place old)) (p i && true) (sym (split p) ∙ h put.place)

    at_place : (p : Rule → Bool) → list_all p (bucket put.place old) ≡ true → (p i && true) ≡ true
        → list_all p (bucket put.place new) ≡ true
    at_place p all mine = split p ∙ and_from (list_all p (bucket put.place old)) (p i && true) all mine

    each : (p : Rule → Bool) → ((s : ℕ) → list_all p (bucket s old) ≡ true) → (p i && true) ≡ true → (s : ℕ)
        → list_all p (bucket s new) ≡ true
    each p all mine s = elim (cases_eq s put.place) [
      | inl e ↦ subst (λ t. list_all p (bucket t new) ≡ true) (sym e) (at_place p (all put.place) mine)
      | inr other ↦ ap (list_all p) (put.elsewhere s other) ∙ all s
    ]

-- a bucket that grew by one
pub put_is : (n : ℕ) {V : Type 0} (f : V → List Rule) (mid : List V) (old : List (List Rule)) (place : ℕ) (v w : V) (i : Rule)
    → place < length mid → meets n place i.premise ≡ true
    → ((s : ℕ) → bucket s (map f mid) ≡ bucket s old) → v ≡ get_or mid place v → f w ≡ f v ++ i ∷ []
    → IsPut n old (map f (set mid place w)) i
put_is n f mid old place v w i lt met e at more =
    let sets : map f (set mid place w) ≡ set (map f mid) place (f w) = map-set f mid place w in
    record {
      place = place;
      met = met;
      here = ap (bucket place) sets ∙ get_or-set_same (map f mid) place (f w) [] (omega (arith, length-map mid f)) ∙ more
          ∙ ap (λ is. is ++ i ∷ []) (ap f at ∙ sym (get_or-map f mid place v [] lt) ∙ e place);
      elsewhere = λ s other. ap (bucket s) sets ∙ get_or-set_other (map f mid) place s (f w) [] other ∙ e s;
    }

-- a bucket that did not grow
pub put_back : {V : Type 0} (f : V → List Rule) (mid : List V) (old : List (List Rule)) (place : ℕ) (v w : V) → place < length mid
    → ((s : ℕ) → bucket s (map f mid) ≡ bucket s old) → v ≡ get_or mid place v → f w ≡ f v → (s : ℕ)
    → bucket s (map f (set mid place w)) ≡ bucket s old
put_back f mid old place v w lt e at more s =
    let sets : map f (set mid place w) ≡ set (map f mid) place (f w) = map-set f mid place w in
    ap (bucket s) sets ∙ elim (cases_eq s place) [
      | inl here ↦ subst (λ t. bucket t (set (map f mid) place (f w)) ≡ bucket t old) (sym here)
          (get_or-set_same (map f mid) place (f w) [] (omega (arith, length-map mid f)) ∙ more ∙ ap f at
          ∙ sym (get_or-map f mid place v [] lt) ∙ e place)
      | inr other ↦ get_or-set_other (map f mid) place s (f w) [] other ∙ e s
    ]

-- ---- what a search through the buckets gives

pub found_filed : (n : ℕ) {V : Type 0} (f : V → List Rule) (J : List Rule) (vs ws : List V) (X : Set) (i : Rule) → IsFiled n J (map f vs)
    → ws ≡ vs → find (breaks_below X) (bucket 0 (map f ws)) ≡ Some i → IsBroken J X i
found_filed n f J vs ws X i filed e h = broken_filed n J (map f vs) X i filed
    (subst (λ zs. IsBrokenIn (map f zs) X i) e (broken_in_bucket (map f ws) 0 X i h))

pub searched_filed : (n : ℕ) {V : Type 0} (f : V → List Rule) (J : List Rule) (vs us ws : List V) (X : Set) (found : Option Rule)
    → IsFiled n J (map f vs) → us ≡ vs → ws ≡ vs → find (breaks_below X) (bucket 0 (map f us)) ≡ None
    → MatchOption found ((a b : ℕ) → a ≤ b → get_or X a false ≡ true → get_or X b false ≡ true
    → absorbs_all (bucket (suc (a * n + b)) (map f ws)) X ≡ true) (λ i. IsBrokenIn (map f ws) X i)
    → MatchOption found (absorbs_all J X ≡ true) (λ i. IsBroken J X i)
searched_filed n f J vs us ws X (Some i) filed d e none h =
    broken_filed n J (map f vs) X i filed (subst (λ zs. IsBrokenIn (map f zs) X i) e h)
searched_filed n f J vs us ws X None filed d e none h =
    absorbs_all_filed n J (map f vs) X filed (ap (λ zs. find (breaks_below X) (bucket 0 (map f zs))) (sym d) ∙ none)
    (subst (λ zs. (a b : ℕ) → a ≤ b → get_or X a false ≡ true → get_or X b false ≡ true
    → absorbs_all (bucket (suc (a * n + b)) (map f zs)) X ≡ true) e h)

-- a member that is broken has the width of all
pub wide_broken : (n : ℕ) (J : List Rule) (X : Set) (i : Rule) → HaveWidth n J → IsBroken J X i → length i.conclusion ≡ n
wide_broken n J X i even b = eqb-true (length i.conclusion) n
    (and_parts (eqb (length i.premise) n) (eqb (length i.conclusion) n) (b.member (has_width n) even)).1

pub on_err_from : {T E P : Type 0} (r : Result T E) → P → OnErr r P
on_err_from (Ok x) p = tt
on_err_from (Err e) p = p
