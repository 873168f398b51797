-- One pass over the direct basis is the closure. What the closure of X has and X lacks comes from a proper premise within X: take members
-- away from X as long as the attribute stays in the closure; once each member is needed, the set is a proper premise. So a set respects
-- the direct basis exactly where it is closed, and with the Duquenne-Guigues basis it shares the sets that respect it, so it has at least
-- as many members.
use Rattle.std.proofs.Common.{◌≡◌, ℕ, zero, suc, ◌+◌, ◌<◌, ◌≤◌, Bool, true, false, not, ◌||◌, List, [], ◌∷◌, map, filter, fold, length}
use Rattle.std.proofs.Common.{get_or, set, refl, sym, ap, ap₂, ◌∙◌, subst, arith, inl, inr}
use Rattle.std.proofs.lemmas.Bool.{false≢true, cases_Bool, or_left, or_right, not-false, false_from_ne_true}
use Rattle.std.proofs.lemmas.List.{length-set}
use Rattle.std.proofs.lemmas.List.Folds.{list_all-map}
use Rattle.std.specs.List.{list_all, list_any, range_with_len}
use mathlib.Core.Bool.{beq}
use Rattle.fca_model.specs.Sets.{Set, within, join, size, same, all_sets}
use Rattle.fca_model.specs.Context.{Context, closure, is_closed}
use Rattle.fca_model.specs.Implications.{Rule, rule, respects, respects_all, holds, follows, equivalent}
use Rattle.fca_model.specs.Pseudo.{basis, basis_known}
use Rattle.fca_model.proofs.ListLemmas.{list_all-filter, list_any_at, list_any-not, list_any-map, filter_passes, implies_from, implies_at}
use Rattle.fca_model.proofs.ListLemmas.{bool_iff}
use Rattle.fca_model.proofs.SetLemmas.{within_refl, within_trans, within_antisymm, same_from, same-true, within_at_place}
use Rattle.fca_model.proofs.SetLemmas.{within_from_places, all_sets_at, all_sets_from}
use Rattle.fca_model.proofs.ClosureLemmas.{length-closure, closure_extensive, closure_monotone, closure_idempotent, respects_from}
use Rattle.fca_model.proofs.ClosureLemmas.{respects_at}
use Rattle.fca_model.proofs.PseudoLemmas.{holds_respected, closed_by_respecting}
use Rattle.fca_model.proofs.LeastLemmas.{least_equivalent}
use Rattle.direct_basis.specs.Direct.{members, without, from_parts, proper, direct, one_pass}
use Rattle.direct_basis.proofs.JoinLemmas.{length-joins, get_or-joins, joins_within}

-- ---- one member less

pub within-without : (A : Set) (a : ℕ) → within (set A a false) A ≡ true
within-without [] a = refl
within-without (x ∷ A) zero = within_refl A
within-without (true ∷ A) (suc a) = within-without A a
within-without (false ∷ A) (suc a) = within-without A a

pub size-without : (A : Set) (a : ℕ) → get_or A a false ≡ true → size A ≡ size (set A a false) + 1
size-without [] a h = absurd (false≢true h)
size-without (true ∷ A) zero h = omega arith
size-without (false ∷ A) zero h = absurd (false≢true h)
size-without (true ∷ A) (suc a) h = omega (arith, size-without A a h)
size-without (false ∷ A) (suc a) h = omega (arith, size-without A a h)

-- what the larger set lacks
lacks_below : (A B : Set) (m : ℕ) → within A B ≡ true → get_or B m false ≡ false → get_or A m false ≡ false
lacks_below A B m w lack = false_from_ne_true (get_or A m false) (λ t. false≢true (sym lack ∙ within_at_place A B w m t))

-- ---- the members of the direct basis

module _ (K : Context) where
  -- the closure of A without a
  abbrev closed_without : Set → ℕ → Set
  closed_without A a = closure K (without A a)

  direct_fused : (p : Rule → Bool) → list_all p (direct K) ≡ list_all (λ P. not (proper K P) || p (rule P (closure K P))) (all_sets K.width)
  unfolding direct
  direct_fused p = list_all-map p (λ P. rule P (closure K P)) (filter (proper K) (all_sets K.width))
      ∙ list_all-filter (λ P. p (rule P (closure K P))) (proper K) (all_sets K.width)

  direct_all : (p : Rule → Bool) → ((P : Set) → length P ≡ K.width → proper K P ≡ true → p (rule P (closure K P)) ≡ true)
      → list_all p (direct K) ≡ true
  direct_all p h = direct_fused p ∙ all_sets_from (λ P. not (proper K P) || p (rule P (closure K P))) K.width
      (λ P e. implies_from (proper K P) (p (rule P (closure K P))) (h P e))

  direct_at : (p : Rule → Bool) (P : Set) → length P ≡ K.width → proper K P ≡ true → list_all p (direct K) ≡ true
      → p (rule P (closure K P)) ≡ true
  direct_at p P e q h = implies_at (proper K P) (p (rule P (closure K P)))
      (all_sets_at (λ X. not (proper K X) || p (rule X (closure K X))) K.width P e (sym (direct_fused p) ∙ h)) q

  pub direct_holds : list_all (holds K) (direct K) ≡ true
  direct_holds = direct_all (holds K) (λ P e q. within_refl (closure K P))

  -- ---- what the closure has comes from a proper premise

  -- where m is in the closure of A, not in A, and in no closure of A without one member
  proper_from : (A : Set) (m : ℕ) → m < length A → get_or (closure K A) m false ≡ true → get_or A m false ≡ false
      → list_any (λ a. get_or (closed_without A a) m false) (members A) ≡ false → proper K A ≡ true
  proper_from A m l has lack none =
      let less : get_or (from_parts K A) m false ≡ false =
      get_or-joins A (map (closed_without A) (members A)) m l
      ∙ ap₂ (λ a b. a || b) lack (list_any-map (λ C. get_or C m false) (closed_without A) (members A) ∙ none) in
      ap not (false_from_ne_true (same (closure K A) (from_parts K A))
      (λ e. false≢true (sym less ∙ ap (λ Z. get_or Z m false) (sym (same-true (closure K A) (from_parts K A) e)) ∙ has)))

  reached : (k : ℕ) (A : Set) → size A < k → length A ≡ K.width → (m : ℕ) → m < K.width → get_or A m false ≡ false
      → get_or (closure K A) m false ≡ true
      → (P : Set) × (length P ≡ K.width) × (within P A ≡ true) × (proper K P ≡ true) × (get_or (closure K P) m false ≡ true)
  reached zero A s e m l lack has = absurd (omega arith)
  reached (suc k) A s e m l lack has =
      let test : ℕ → Bool = λ a. get_or (closed_without A a) m false in
      elim (cases_Bool (list_any test (members A))) [
        | inl some ↦
            let r = list_any_at test (λ a. get_or A a false) (members A) some
            (filter_passes (λ a. get_or A a false) (range_with_len 0 (length A))) in
            let B = set A r.0 false in
            let w = within-without A r.0 in
            let z = size-without A r.0 r.2 in
            let found = reached k B (omega arith) (length-set A r.0 false ∙ e) m l (lacks_below B A m w lack) r.1 in
            (found.0, found.1, within_trans found.0 B A found.2 w, found.3, found.4)
        | inr none ↦ (A, e, within_refl A, proper_from A m (subst (λ n. m < n) (sym e) l) has lack none, has)
      ]

  -- ---- one pass

  -- the conclusions that a pass joins
  conclusions : Set → List Set
  conclusions X = map (λ (i : Rule). i.conclusion) (filter (λ i. within i.premise X) (direct K))

  pass_fused : (X : Set) (p : Set → Bool) → list_all p (conclusions X) ≡ list_all (λ i. not (within i.premise X) || p i.conclusion)
      (direct K)
  unfolding conclusions
  pass_fused X p = list_all-map p (λ (i : Rule). i.conclusion) (filter (λ i. within i.premise X) (direct K))
      ∙ list_all-filter (λ (i : Rule). p i.conclusion) (λ i. within i.premise X) (direct K)

  pass_within : (X : Set) → length X ≡ K.width → within (fold join X (conclusions X)) (closure K X) ≡ true
  pass_within X e = joins_within X (conclusions X) (closure K X) (closure_extensive K X e)
      (pass_fused X (λ C. within C (closure K X)) ∙ direct_all (λ i. not (within i.premise X) || within i.conclusion (closure K X))
      (λ P w q. implies_from (within P X) (within (closure K P) (closure K X)) (closure_monotone K P X)))

  pass_reaches : (X : Set) → length X ≡ K.width → (m : ℕ) → m < K.width → get_or X m false ≡ false → get_or (closure K X) m false ≡ true
      → list_any (λ C. get_or C m false) (conclusions X) ≡ true
  pass_reaches X e m l lack has =
      let test : Set → Bool = λ C. get_or C m false in
      let r = reached (suc (size X)) X (omega arith) e m l lack has in
      elim (cases_Bool (list_any test (conclusions X))) [
        | inl t ↦ t
        | inr f ↦
            let none : list_all (λ C. not (test C)) (conclusions X) ≡ true =
            not-false (list_all (λ C. not (test C)) (conclusions X)) (sym (list_any-not test (conclusions X)) ∙ f) in
            let lacking = direct_at (λ i. not (within i.premise X) || not (test i.conclusion)) r.0 r.1 r.3
            (sym (pass_fused X (λ C. not (test C))) ∙ none) in
            absurd (false≢true (sym (ap not r.4) ∙ implies_at (within r.0 X) (not (test (closure K r.0))) lacking r.2))
      ]

  pub one_pass_closes : (X : Set) → length X ≡ K.width → one_pass (direct K) X ≡ closure K X
  unfolding conclusions
  one_pass_closes X e =
      let Cs = conclusions X in
      within_antisymm (fold join X Cs) (closure K X) (length-joins X Cs ∙ e ∙ sym (length-closure K X)) (pass_within X e)
      (within_from_places (closure K X) (fold join X Cs) (λ m l has.
      let lt : m < K.width = subst (λ n. m < n) (length-closure K X) l in
      get_or-joins X Cs m (subst (λ n. m < n) (sym e) lt) ∙ elim (cases_Bool (get_or X m false)) [
        | inl t ↦ or_left (get_or X m false) (list_any (λ C. get_or C m false) Cs) t
        | inr f ↦ or_right (get_or X m false) (list_any (λ C. get_or C m false) Cs) (pass_reaches X e m lt f has)
      ]))

  -- ---- what follows

  closed_by_direct : (T : Set) → length T ≡ K.width → respects_all (direct K) T ≡ is_closed K T
  unfolding conclusions
  closed_by_direct T e = bool_iff (respects_all (direct K) T) (is_closed K T)
      (λ h. same_from T (closure K T) (within_antisymm T (closure K T) (e ∙ sym (length-closure K T)) (closure_extensive K T e)
      (subst (λ Z. within Z T ≡ true) (one_pass_closes T e)
      (joins_within T (conclusions T) T (within_refl T) (pass_fused T (λ C. within C T) ∙ h)))))
      (λ c. direct_all (respects T) (λ P w q. respects_from T (rule P (closure K P)) (λ h.
      subst (λ X. within (closure K P) X ≡ true) (sym (same-true T (closure K T) c)) (closure_monotone K P T h))))

  pub direct_follows : (i : Rule) → length i.premise ≡ K.width → holds K i ≡ follows K.width (direct K) i
  unfolding follows
  direct_follows i e =
      let test : Set → Bool = λ T. not (respects_all (direct K) T) || respects T i in
      let T = closure K i.premise in
      bool_iff (holds K i) (list_all test (all_sets K.width))
      (λ h. all_sets_from test K.width (λ T w. implies_from (respects_all (direct K) T) (respects T i)
      (λ r. holds_respected K T i (sym (closed_by_direct T w) ∙ r) h)))
      (λ h. respects_at T i (implies_at (respects_all (direct K) T) (respects T i)
      (all_sets_at test K.width T (length-closure K i.premise) h)
      (closed_by_direct T (length-closure K i.premise) ∙ same_from T (closure K T) (sym (closure_idempotent K i.premise e))))
      (closure_extensive K i.premise e))

  pub direct_longer : length (basis K) ≤ length (direct K)
  unfolding equivalent
  direct_longer = least_equivalent [] K refl (direct K)
      (all_sets_from (λ T. beq (respects_all (direct K) T) (respects_all (basis_known [] K) T)) K.width (λ T e.
      let one : respects_all (direct K) T ≡ respects_all (basis_known [] K) T = closed_by_direct T e ∙ closed_by_respecting [] K T refl e in
      subst (λ b. beq (respects_all (direct K) T) b ≡ true) one (beq_refl (respects_all (direct K) T))))
    where
      beq_refl : (b : Bool) → beq b b ≡ true
      beq_refl true = refl
      beq_refl false = refl
