-- Free sets. A proper premise is free: were a member in the closure of the others, that closure would be the closure of the whole set.
-- What lies within a free set is free, since with fewer members each closure has less.
use Rattle.std.proofs.Common.{◌≡◌, ℕ, zero, suc, ◌<◌, Bool, true, false, not, [], ◌∷◌, map, length, get_or, set, refl, sym, ap, ◌∙◌, subst}
use Rattle.std.proofs.Common.{inl, inr}
use Rattle.std.proofs.lemmas.Bool.{false≢true, cases_Bool, or_right, not-false, false_from_ne_true}
use Rattle.std.proofs.lemmas.List.{length-set}
use Rattle.std.proofs.lemmas.List.Folds.{list_all-map}
use Rattle.std.specs.List.{list_all, list_any}
use Rattle.fca_model.specs.Sets.{Set, within}
use Rattle.fca_model.specs.Context.{Context, closure}
use Rattle.fca_model.proofs.ListLemmas.{list_any-not, list_any-map}
use Rattle.fca_model.proofs.SetLemmas.{within_antisymm, same_from, within_at_place, within_from_places}
use Rattle.fca_model.proofs.ClosureLemmas.{length-closure, closure_extensive, closure_monotone, closure_idempotent}
use Rattle.direct_basis.specs.Direct.{members, without, from_parts, proper}
use Rattle.direct_basis.specs.Levels.{free}
use Rattle.direct_basis.proofs.MemberLemmas.{members_from, members_at}
use Rattle.direct_basis.proofs.JoinLemmas.{length-joins, get_or-joins, joins_within}
use Rattle.direct_basis.proofs.DirectLemmas.{within-without}

-- A lies within whatever has a and A without a
within_by_place : (A T : Set) (a : ℕ) → within (set A a false) T ≡ true → get_or T a false ≡ true → within A T ≡ true
within_by_place [] T a h t = refl
within_by_place (x ∷ A) [] a h t = absurd (false≢true t)
within_by_place (true ∷ A) (true ∷ T) zero h t = h
within_by_place (false ∷ A) (true ∷ T) zero h t = h
within_by_place (x ∷ A) (false ∷ T) zero h t = absurd (false≢true t)
within_by_place (true ∷ A) (true ∷ T) (suc a) h t = within_by_place A T a h t
within_by_place (true ∷ A) (false ∷ T) (suc a) h t = absurd (false≢true h)
within_by_place (false ∷ A) (y ∷ T) (suc a) h t = within_by_place A T a h t

-- taking the same attribute away keeps inclusion
without_mono : (A B : Set) (a : ℕ) → within A B ≡ true → within (set A a false) (set B a false) ≡ true
without_mono [] B a h = refl
without_mono (true ∷ A) [] a h = absurd (false≢true h)
without_mono (false ∷ A) [] zero h = h
without_mono (false ∷ A) [] (suc a) h = without_mono A [] a h
without_mono (true ∷ A) (true ∷ B) zero h = h
without_mono (true ∷ A) (false ∷ B) zero h = absurd (false≢true h)
without_mono (false ∷ A) (y ∷ B) zero h = h
without_mono (true ∷ A) (true ∷ B) (suc a) h = without_mono A B a h
without_mono (true ∷ A) (false ∷ B) (suc a) h = absurd (false≢true h)
without_mono (false ∷ A) (y ∷ B) (suc a) h = without_mono A B a h

module _ (K : Context) where
  -- the closure of A without a
  abbrev closed_without : Set → ℕ → Set
  closed_without A a = closure K (without A a)

  -- whether a comes again from the others
  abbrev comes_again : Set → ℕ → Bool
  comes_again A a = get_or (closed_without A a) a false

  -- where no member comes again, and what that says of one
  pub free_from : (A : Set) → ((a : ℕ) → get_or A a false ≡ true → comes_again A a ≡ false) → free K A ≡ true
  free_from A h = members_from (λ a. not (comes_again A a)) A (λ a t. ap not (h a t))

  pub free_at : (A : Set) (a : ℕ) → free K A ≡ true → get_or A a false ≡ true → comes_again A a ≡ false
  free_at A a f t = not-true (comes_again A a) (members_at (λ i. not (comes_again A i)) A f a t)
    where
      not-true : (b : Bool) → not b ≡ true → b ≡ false
      not-true true h = absurd (false≢true h)
      not-true false h = refl

  -- what one member less gives is in what the parts give together
  part_has : (A : Set) (a m : ℕ) → length A ≡ K.width → get_or A a false ≡ true → m < K.width → get_or (closed_without A a) m false ≡ true
      → get_or (from_parts K A) m false ≡ true
  part_has A a m e t l h =
      let test : ℕ → Bool = λ i. get_or (closed_without A i) m false in
      let some : list_any test (members A) ≡ true = elim (cases_Bool (list_any test (members A))) [
        | inl u ↦ u
        | inr none ↦
            let all_fail = not-false (list_all (λ i. not (test i)) (members A)) (sym (list_any-not test (members A)) ∙ none) in
            absurd (false≢true (sym (ap not h) ∙ members_at (λ i. not (test i)) A all_fail a t))
      ] in
      get_or-joins A (map (closed_without A) (members A)) m (subst (λ n. m < n) (sym e) l)
      ∙ or_right (get_or A m false) (list_any (λ C. get_or C m false) (map (closed_without A) (members A)))
      (list_any-map (λ C. get_or C m false) (closed_without A) (members A) ∙ some)

  -- all that comes from the parts lies in the closure
  parts_within : (A : Set) → length A ≡ K.width → within (from_parts K A) (closure K A) ≡ true
  parts_within A e = joins_within A (map (closed_without A) (members A)) (closure K A) (closure_extensive K A e)
      (list_all-map (λ C. within C (closure K A)) (closed_without A) (members A)
      ∙ members_from (λ a. within (closed_without A a) (closure K A)) A (λ a t. closure_monotone K (without A a) A (within-without A a)))

  -- where a member lies in the closure of the others, that closure is all
  not_proper : (A : Set) (a : ℕ) → length A ≡ K.width → get_or A a false ≡ true → comes_again A a ≡ true → proper K A ≡ false
  not_proper A a e t h =
      let B = set A a false in
      let wide = length-set A a false ∙ e in
      let all_in : within (closure K A) (closure K B) ≡ true = subst (λ Z. within (closure K A) Z ≡ true) (closure_idempotent K B wide)
      (closure_monotone K A (closure K B) (within_by_place A (closure K B) a (closure_extensive K B wide) h)) in
      ap not (same_from (closure K A) (from_parts K A)
      (within_antisymm (closure K A) (from_parts K A)
      (length-closure K A ∙ sym (length-joins A (map (closed_without A) (members A)) ∙ e))
      (within_from_places (closure K A) (from_parts K A)
      (λ m l u. part_has A a m e t (subst (λ n. m < n) (length-closure K A) l)
      (within_at_place (closure K A) (closure K B) all_in m u)))
      (parts_within A e)))

  pub proper_free : (A : Set) → length A ≡ K.width → proper K A ≡ true → free K A ≡ true
  proper_free A e p = free_from A (λ a t. false_from_ne_true (comes_again A a) (λ h. false≢true (sym (not_proper A a e t h) ∙ p)))

  pub free_within : (A B : Set) → within B A ≡ true → free K A ≡ true → free K B ≡ true
  free_within A B w f = free_from B (λ b t. false_from_ne_true (comes_again B b) (λ u.
      false≢true (sym (free_at A b f (within_at_place B A w b t))
      ∙ within_at_place (closed_without B b) (closed_without A b)
      (closure_monotone K (without B b) (without A b) (without_mono B A b w)) b u)))
