-- Members of a list of sets, and tests of them.
use Rattle.std.proofs.Common.{◌≡◌, ℕ, ◌<◌, get_or, length, Bool, true, false, List, [], ◌∷◌, ◌++◌, refl, sym, ap, ◌∙◌, inl, inr, ◌⊎◌}
use Rattle.std.proofs.lemmas.Bool.{false≢true, or_cases, or_left, or_right, and_parts, and_from}
use Rattle.std.proofs.lemmas.List.Folds.{list_any-append, list_all-append, list_any_at}
use Rattle.std.specs.List.{list_all, list_any}
use Rattle.std.specs.Ordering.{is_lt}
use Rattle.fca_model.specs.Sets.{Set, same, lectic_cmp, increasing}
use Rattle.fca_model.proofs.SetLemmas.{same-true, same_refl}
use Rattle.lectic_concepts.proofs.IntentLemmas.{In}

-- a test that each member passes
pub all_from_members : (p : Set → Bool) (Xs : List Set) → ((X : Set) → In X Xs → p X ≡ true) → list_all p Xs ≡ true
all_from_members p [] h = refl
all_from_members p (X ∷ Xs) h = and_from (p X) (list_all p Xs) (h X (or_left (same X X) (list_any (same X) Xs) (same_refl X)))
    (all_from_members p Xs (λ Y k. h Y (or_right (same Y X) (list_any (same Y) Xs) k)))

-- a test that some member passes
pub member_of_any : (p : Set → Bool) (Xs : List Set) → list_any p Xs ≡ true → (X : Set) × (list_any (same X) Xs ≡ true) × (p X ≡ true)
member_of_any p [] h = absurd (false≢true h)
member_of_any p (X ∷ Xs) h = elim (or_cases (p X) (list_any p Xs) h) [
  | inl here ↦ (X, or_left (same X X) (list_any (same X) Xs) (same_refl X), here)
  | inr there ↦ let r = member_of_any p Xs there in (r.0, or_right (same r.0 X) (list_any (same r.0) Xs) r.1, r.2)
]

pub any_from_member : (p : Set → Bool) (X : Set) (Xs : List Set) → In X Xs → p X ≡ true → list_any p Xs ≡ true
any_from_member p X [] h t = absurd (false≢true h)
any_from_member p X (Y ∷ Ys) h t = elim (or_cases (same X Y) (list_any (same X) Ys) h) [
  | inl here ↦ or_left (p Y) (list_any p Ys) (ap p (sym (same-true X Y here)) ∙ t)
  | inr there ↦ or_right (p Y) (list_any p Ys) (any_from_member p X Ys there t)
]

-- ---- one set more at the end

pub of_push : (X C : Set) (Cs : List Set) → In X (Cs ++ C ∷ []) → In X Cs ⊎ (X ≡ C)
of_push X C Cs h = elim (or_cases (list_any (same X) Cs) (list_any (same X) (C ∷ [])) (sym (list_any-append (same X) Cs (C ∷ [])) ∙ h)) [
  | inl old ↦ inl old
  | inr new ↦ elim (or_cases (same X C) false new) [ inl e ↦ inr (same-true X C e) | inr f ↦ absurd (false≢true f) ]
]

pub any_old : (p : Set → Bool) (C : Set) (Cs : List Set) → list_any p Cs ≡ true → list_any p (Cs ++ C ∷ []) ≡ true
any_old p C Cs h = list_any-append p Cs (C ∷ []) ∙ or_left (list_any p Cs) (list_any p (C ∷ [])) h

pub any_new : (p : Set → Bool) (C : Set) (Cs : List Set) → p C ≡ true → list_any p (Cs ++ C ∷ []) ≡ true
any_new p C Cs h = list_any-append p Cs (C ∷ []) ∙ or_right (list_any p Cs) (list_any p (C ∷ [])) (or_left (p C) false h)

pub increasing-push : (Cs : List Set) (C : Set) → increasing Cs ≡ true → ((X : Set) → In X Cs → is_lt (lectic_cmp X C) ≡ true)
    → increasing (Cs ++ C ∷ []) ≡ true
increasing-push [] C h before = refl
increasing-push (X ∷ Xs) C h before =
    let parts = and_parts (list_all (λ B. is_lt (lectic_cmp X B)) Xs) (increasing Xs) h in
    let test : Set → Bool = λ B. is_lt (lectic_cmp X B) in
    and_from (list_all test (Xs ++ C ∷ [])) (increasing (Xs ++ C ∷ []))
    (list_all-append test Xs (C ∷ []) ∙ and_from (list_all test Xs) (list_all test (C ∷ [])) parts.0
    (and_from (test C) true (before X (or_left (same X X) (list_any (same X) Xs) (same_refl X))) refl))
    (increasing-push Xs C parts.1 (λ Y k. before Y (or_right (same Y X) (list_any (same Y) Xs) k)))

-- ---- places

pub in_at : (Xs : List Set) (i : ℕ) (d : Set) → i < length Xs → In (get_or Xs i d) Xs
in_at Xs i d l = list_any_at (same (get_or Xs i d)) Xs i d l (same_refl (get_or Xs i d))
