-- Lists of sets in lectic order, each set once. Two such lists with the same members are equal: the first set of each is in the other, so
-- none comes
-- before the other; and without it the rests have the same members, since it comes before each of them.
use Rattle.std.proofs.Common.{◌≡◌, ℕ, ◌+◌, Bool, true, false, ◌||◌, cond, List, [], ◌∷◌, length, filter, refl, sym, ap, ap₂, ◌∙◌, subst}
use Rattle.std.proofs.Common.{arith, inl, inr, Ordering, Less, Equal, Greater, not, ◌&&◌, ◌++◌}
use Rattle.std.proofs.lemmas.Bool.{false≢true, and_parts, and_from, cases_Bool, or_cases, or_left, or_right}
use Rattle.std.specs.List.{list_all, list_any, AllByRecursion}
use Rattle.std.specs.Ordering.{is_lt}
use Rattle.fca_model.specs.Sets.{Set, same, all_sets, times_in, increasing, lectic_cmp}
use Rattle.fca_model.proofs.ListLemmas.{list_all-filter_kept, filter_agree_on, filter_false, and_not-implied, and-implied}
use Rattle.fca_model.proofs.SetLemmas.{same_refl, same-true, lectic_refl, lectic_flip, all_sets_once}
use Rattle.std.specs.List.Sorted.{IsStrictlySortedBy}
use Rattle.fca_model.specs.SetLaws.{lectic_total}

-- what all pass, a member passes
pub at_member : (p : Set → Bool) (A : Set) (Xs : List Set) → list_any (same A) Xs ≡ true → list_all p Xs ≡ true → p A ≡ true
at_member p A [] h a = absurd (false≢true h)
at_member p A (X ∷ Xs) h a =
    let parts = and_parts (p X) (list_all p Xs) a in
    elim (or_cases (same A X) (list_any (same A) Xs) h) [
      | inl here ↦ ap p (same-true A X here) ∙ parts.0
      | inr there ↦ at_member p A Xs there parts.1
    ]

pub is_less : (o : Ordering) → is_lt o ≡ true → o ≡ Less
is_less Less h = refl
is_less Equal h = absurd (false≢true h)
is_less Greater h = absurd (false≢true h)

-- no set comes before itself, and no two before each other
pub not_before_itself : (A : Set) → is_lt (lectic_cmp A A) ≡ true → ⊥
not_before_itself A h = false≢true (ap is_lt (sym (lectic_refl A)) ∙ h)

pub before_trans : (A B C : Set) → is_lt (lectic_cmp A B) ≡ true → is_lt (lectic_cmp B C) ≡ true → is_lt (lectic_cmp A C) ≡ true
before_trans A B C h k = ap is_lt (lectic_total.trans A B C (is_less (lectic_cmp A B) h) (is_less (lectic_cmp B C) k))

not_both_before : (A B : Set) → is_lt (lectic_cmp A B) ≡ true → is_lt (lectic_cmp B A) ≡ true → ⊥
not_both_before A B a b = false≢true (ap is_lt (sym (lectic_flip A B (is_less (lectic_cmp B A) b))) ∙ a)

-- two lists in order with the same members are the same
pub same_members : (Xs Ys : List Set) → increasing Xs ≡ true → increasing Ys ≡ true
    → ((A : Set) → list_any (same A) Xs ≡ true → list_any (same A) Ys ≡ true)
    → ((A : Set) → list_any (same A) Ys ≡ true → list_any (same A) Xs ≡ true) → Xs ≡ Ys
same_members [] [] u v f g = refl
same_members [] (Y ∷ Ys) u v f g = absurd (false≢true (g Y (or_left (same Y Y) (list_any (same Y) Ys) (same_refl Y))))
same_members (X ∷ Xs) [] u v f g = absurd (false≢true (f X (or_left (same X X) (list_any (same X) Xs) (same_refl X))))
same_members (X ∷ Xs) (Y ∷ Ys) u v f g =
    let us = and_parts (list_all (λ B. is_lt (lectic_cmp X B)) Xs) (increasing Xs) u in
    let vs = and_parts (list_all (λ B. is_lt (lectic_cmp Y B)) Ys) (increasing Ys) v in
    let heads : X ≡ Y = elim (or_cases (same X Y) (list_any (same X) Ys) (f X (or_left (same X X) (list_any (same X) Xs) (same_refl X)))) [
      | inl here ↦ same-true X Y here
      | inr there ↦ elim (or_cases (same Y X) (list_any (same Y) Xs) (g Y (or_left (same Y Y) (list_any (same Y) Ys) (same_refl Y)))) [
        | inl here ↦ sym (same-true Y X here)
        | inr also ↦ absurd (not_both_before X Y (at_member (λ B. is_lt (lectic_cmp X B)) Y Xs also us.0)
            (at_member (λ B. is_lt (lectic_cmp Y B)) X Ys there vs.0))
      ]
    ] in
    ap₂ (λ Z Zs. Z ∷ Zs) heads (same_members Xs Ys us.1 vs.1
    (λ A h. elim (or_cases (same A Y) (list_any (same A) Ys) (f A (or_right (same A X) (list_any (same A) Xs) h))) [
      | inl here ↦ absurd (not_before_itself X (subst (λ Z. is_lt (lectic_cmp X Z) ≡ true) (same-true A Y here ∙ sym heads)
          (at_member (λ B. is_lt (lectic_cmp X B)) A Xs h us.0)))
      | inr there ↦ there
    ])
    (λ A h. elim (or_cases (same A X) (list_any (same A) Xs) (g A (or_right (same A Y) (list_any (same A) Ys) h))) [
      | inl here ↦ absurd (not_before_itself Y (subst (λ Z. is_lt (lectic_cmp Y Z) ≡ true) (same-true A X here ∙ heads)
          (at_member (λ B. is_lt (lectic_cmp Y B)) A Ys h vs.0)))
      | inr there ↦ there
    ]))

-- ---- filters

pub increasing-filter : (q : Set → Bool) (Xs : List Set) → increasing Xs ≡ true → increasing (filter q Xs) ≡ true
increasing-filter q [] h = refl
increasing-filter q (X ∷ Xs) h =
    let parts = and_parts (list_all (λ B. is_lt (lectic_cmp X B)) Xs) (increasing Xs) h in
    elim (q X) as (λ b. increasing (cond b (X ∷ filter q Xs) (filter q Xs)) ≡ true) [
      | true ↦ and_from (list_all (λ B. is_lt (lectic_cmp X B)) (filter q Xs)) (increasing (filter q Xs))
          (list_all-filter_kept (λ B. is_lt (lectic_cmp X B)) q Xs parts.0) (increasing-filter q Xs parts.1)
      | false ↦ increasing-filter q Xs parts.1
    ]

-- a member that passes q is a member of the filter, and the other way round
pub in_filter : (q : Set → Bool) (A : Set) (Xs : List Set) → list_any (same A) Xs ≡ true → q A ≡ true
    → list_any (same A) (filter q Xs) ≡ true
in_filter q A [] h t = absurd (false≢true h)
in_filter q A (X ∷ Xs) h t = elim (or_cases (same A X) (list_any (same A) Xs) h) [
  | inl here ↦ subst (λ b. list_any (same A) (cond b (X ∷ filter q Xs) (filter q Xs)) ≡ true) (sym (ap q (sym (same-true A X here)) ∙ t))
      (or_left (same A X) (list_any (same A) (filter q Xs)) here)
  | inr there ↦ elim (q X) as (λ b. list_any (same A) (cond b (X ∷ filter q Xs) (filter q Xs)) ≡ true) [
    | true ↦ or_right (same A X) (list_any (same A) (filter q Xs)) (in_filter q A Xs there t)
    | false ↦ in_filter q A Xs there t
  ]
]

pub of_filter : (q : Set → Bool) (A : Set) (Xs : List Set) → list_any (same A) (filter q Xs) ≡ true
    → (list_any (same A) Xs ≡ true) × (q A ≡ true)
of_filter q A [] h = absurd (false≢true h)
of_filter q A (X ∷ Xs) h = elim (cases_Bool (q X)) [
  | inl t ↦ elim (or_cases (same A X) (list_any (same A) (filter q Xs))
      (subst (λ b. list_any (same A) (cond b (X ∷ filter q Xs) (filter q Xs)) ≡ true) t h)) [
        | inl here ↦ (or_left (same A X) (list_any (same A) Xs) here, ap q (same-true A X here) ∙ t)
        | inr there ↦ let r = of_filter q A Xs there in (or_right (same A X) (list_any (same A) Xs) r.0, r.1)
      ]
  | inr f ↦ let r = of_filter q A Xs (subst (λ b. list_any (same A) (cond b (X ∷ filter q Xs) (filter q Xs)) ≡ true) f h) in
      (or_right (same A X) (list_any (same A) Xs) r.0, r.1)
]

-- ---- all sets

any_from_times : (A : Set) (Xs : List Set) → times_in A Xs ≡ 1 → list_any (same A) Xs ≡ true
any_from_times A [] h = absurd (omega arith)
any_from_times A (X ∷ Xs) h = go (same A X) (any_from_times A Xs) h
  where
    go : (b : Bool) → (times_in A Xs ≡ 1 → list_any (same A) Xs ≡ true) → cond b 1 0 + times_in A Xs ≡ 1
        → (b || list_any (same A) Xs) ≡ true
    go true f h = refl
    go false f h = f (omega arith)

pub in_all_sets : (n : ℕ) (A : Set) → length A ≡ n → list_any (same A) (all_sets n) ≡ true
in_all_sets n A e = any_from_times A (all_sets n) (all_sets_once n A e)

-- where those that pass q come after those that do not
pub split_filter : (p q : Set → Bool) (Xs : List Set) → increasing Xs ≡ true
    → ((X Z : Set) → is_lt (lectic_cmp X Z) ≡ true → p X ≡ true → q X ≡ true → p Z ≡ true → q Z ≡ true)
    → filter p Xs ≡ filter (λ B. p B && not (q B)) Xs ++ filter (λ B. p B && q B) Xs
split_filter p q [] u h = refl
split_filter p q (X ∷ Xs) u h =
    let parts = and_parts (list_all (λ B. is_lt (lectic_cmp X B)) Xs) (increasing Xs) u in
    go (p X) (q X) refl refl parts.0 (split_filter p q Xs parts.1 h)
  where
    go : (a b : Bool) → p X ≡ a → q X ≡ b → list_all (λ B. is_lt (lectic_cmp X B)) Xs ≡ true
        → filter p Xs ≡ filter (λ B. p B && not (q B)) Xs ++ filter (λ B. p B && q B) Xs
        → cond a (X ∷ filter p Xs) (filter p Xs)
        ≡ cond (a && not b) (X ∷ filter (λ B. p B && not (q B)) Xs) (filter (λ B. p B && not (q B)) Xs)
        ++ cond (a && b) (X ∷ filter (λ B. p B && q B) Xs) (filter (λ B. p B && q B) Xs)
    go false b ea eb later rest = rest
    go true false ea eb later rest = ap (λ Zs. X ∷ Zs) rest
    go true true ea eb later rest =
        let none : filter (λ B. p B && not (q B)) Xs ≡ [] =
        filter_agree_on (λ B. is_lt (lectic_cmp X B)) (λ B. p B && not (q B)) (λ _. false)
        (λ Z l. and_not-implied (p Z) (q Z) (h X Z l ea eb)) Xs later
        ∙ filter_false Xs in
        let all : filter p Xs ≡ filter (λ B. p B && q B) Xs =
        filter_agree_on (λ B. is_lt (lectic_cmp X B)) p (λ B. p B && q B) (λ Z l. and-implied (p Z) (q Z) (h X Z l ea eb)) Xs later in
        ap (λ Zs. X ∷ Zs) all ∙ ap (λ Zs. Zs ++ X ∷ filter (λ B. p B && q B) Xs) (sym none)

-- the keys of a tree
pub increasing_keys : (Xs : List Set) → IsStrictlySortedBy lectic_cmp Xs → increasing Xs ≡ true
unfolding IsStrictlySortedBy
increasing_keys [] h = refl
increasing_keys (X ∷ Xs) h = and_from (list_all (λ B. is_lt (lectic_cmp X B)) Xs) (increasing Xs) (below Xs h.0) (increasing_keys Xs h.1)
  where
    below : (Ys : List Set) → AllByRecursion (λ Y. lectic_cmp X Y ≡ Less) Ys → list_all (λ B. is_lt (lectic_cmp X B)) Ys ≡ true
    below [] h = refl
    below (Y ∷ Ys) h = and_from (is_lt (lectic_cmp X Y)) (list_all (λ B. is_lt (lectic_cmp X B)) Ys) (ap is_lt h.0) (below Ys h.1)
