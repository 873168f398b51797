-- The basis by size is a least basis. It has the members of the basis, so it says the same; and it is as long, since up to each size
-- it has as many members as the basis has of smaller sizes.
use Rattle.std.proofs.Common.{◌≡◌, ℕ, zero, suc, ◌+◌, Bool, true, false, not, ◌||◌, cond, List, [], ◌∷◌, length, filter, refl, sym, ap, ap₂}
use Rattle.std.proofs.Common.{◌∙◌, subst, arith, inl, inr, eqb, eq-eqb, ne_eqb, ltb, lt-ltb, le-ltb, leb, leb-true}
use Rattle.std.proofs.lemmas.Bool.{cases_lt, cases_eq, or_cases, ltb-true}
use Rattle.std.proofs.lemmas.List.{length-append}
use Rattle.std.specs.List.{list_all}
use mathlib.Core.Bool.{beq}
use Rattle.fca_model.specs.Sets.{size}
use Rattle.fca_model.specs.Context.{Context}
use Rattle.fca_model.specs.Implications.{Rule, respects, respects_all, holds, follows, equivalent}
use Rattle.fca_model.specs.Pseudo.{basis_known}
use Rattle.fca_model.specs.Invariant.{SameMembers}
use Rattle.fca_model.specs.Levels.{level_of, levels_below, by_size}
use Rattle.fca_model.proofs.ListLemmas.{bool_iff, filter_all, list_all-mono₂}
use Rattle.fca_model.proofs.SetLemmas.{size_le, all_sets_agree}
use Rattle.fca_model.proofs.PseudoLemmas.{basis_all, basis_holds, follows_holds}
use Rattle.fca_model.proofs.LevelLemmas.{has_below}
use Rattle.fca_model.proofs.LeastLemmas.{least_equivalent}
use Rattle.implication_closure.specs.Closing.{RuleList}
use Rattle.pseudo_levels.specs.LeastBasis.{IsLeastBasis}

-- a list with the members of the basis that is no longer is a least basis
pub least_from_members : (K : Context) (J : List Rule) → SameMembers J (basis_known [] K) → length J ≡ length (basis_known [] K)
    → IsLeastBasis K J
unfolding follows equivalent
least_from_members K J h len =
    let B = basis_known [] K in
    record {
      sound = h (holds K) ∙ basis_holds [] K;
      complete = λ i e f. follows_holds [] K i e f refl
          ∙ all_sets_agree (λ T. not (respects_all B T) || respects T i) (λ T. not (respects_all J T) || respects T i) K.width
          (λ T w. ap (λ b. not b || respects T i) (sym (h (respects T))));
      least = λ L eq.
          let as_basis = sym (all_sets_agree (λ T. beq (respects_all L T) (respects_all J T))
          (λ T. beq (respects_all L T) (respects_all B T)) K.width
          (λ T w. ap (beq (respects_all L T)) (h (respects T)))) ∙ eq in
          let few = least_equivalent [] K refl L as_basis in
          omega (arith, len, few);
    }

length-filter_cons : {X : Type 0} (p : X → Bool) (x : X) (xs : List X) → length (filter p (x ∷ xs)) ≡ cond (p x) 1 0 + length (filter p xs)
length-filter_cons p x xs = elim (p x) as (λ b. length (cond b (x ∷ filter p xs) (filter p xs)) ≡ cond b 1 0 + length (filter p xs))
    [ true ↦ omega arith | false ↦ omega arith ]

below_next : (m k : ℕ) → cond (ltb m (suc k)) 1 0 ≡ cond (ltb m k) 1 0 + cond (eqb m k) 1 0
below_next m k = elim (cases_lt m k) [
  | inl lt ↦ counted (ltb m (suc k)) (ltb m k) (eqb m k) true true false (lt-ltb m (suc k) (omega arith)) (lt-ltb m k lt)
      (ne_eqb m k (omega arith)) refl
  | inr ge ↦ elim (cases_eq m k) [
    | inl e ↦ counted (ltb m (suc k)) (ltb m k) (eqb m k) true false true (lt-ltb m (suc k) (omega arith)) (le-ltb m k ge)
        (eq-eqb m k e) refl
    | inr ne ↦ counted (ltb m (suc k)) (ltb m k) (eqb m k) false false false (le-ltb m (suc k) (omega arith)) (le-ltb m k ge)
        (ne_eqb m k ne) refl
  ]
]
  where
    counted : (a b c a₁ b₁ c₁ : Bool) → a ≡ a₁ → b ≡ b₁ → c ≡ c₁ → cond a₁ 1 0 ≡ cond b₁ 1 0 + cond c₁ 1 0
        → cond a 1 0 ≡ cond b 1 0 + cond c 1 0
    counted a b c a₁ b₁ c₁ ea eb ec e = ap (λ x. cond x 1 0) ea ∙ e ∙ sym (ap₂ (λ x y. cond x 1 0 + cond y 1 0) eb ec)

module _ (S : List Rule) (K : Context) where
  -- the sizes of the members are at most the width
  sizes : list_all (λ i. ltb (size i.premise) (suc K.width)) (basis_known S K) ≡ true
  sizes = basis_all S K (λ i. ltb (size i.premise) (suc K.width)) (λ P e q. lt-ltb (size P) (suc K.width) (omega (arith, size_le P)))

  -- the basis by size has the members of the basis
  pub by_size_members : SameMembers (by_size S K) (basis_known S K)
  unfolding by_size
  by_size_members p =
      let all = has_below S K (suc K.width) in
      bool_iff (list_all p (levels_below (suc K.width) S K)) (list_all p (basis_known S K))
      (λ a. list_all-mono₂ (λ i. leb (suc K.width) (size i.premise) || p i) (λ i. ltb (size i.premise) (suc K.width)) p
      (λ i t s. elim (or_cases (leb (suc K.width) (size i.premise)) (p i) t) [
        | inl big ↦ absurd (omega (arith, leb-true (suc K.width) (size i.premise) big, ltb-true (size i.premise) (suc K.width) s))
        | inr there ↦ there
      ]) (basis_known S K) (all.complete p a) sizes)
      (λ b. all.sound p b)

  -- up to a size it has as many as the basis
  levels_length : (k : ℕ) → length (levels_below k S K) ≡ length (filter (λ i. ltb (size i.premise) k) (basis_known S K))
  unfolding levels_below level_of
  levels_length zero = sym (none (basis_known S K))
    where
      none : (is : List Rule) → length (filter (λ i. ltb (size i.premise) 0) is) ≡ 0
      none [] = refl
      none (i ∷ is) = ap (λ b. length (cond b (i ∷ filter (λ i. ltb (size i.premise) 0) is) (filter (λ i. ltb (size i.premise) 0) is)))
          (le-ltb (size i.premise) 0 (omega arith)) ∙ none is
  levels_length (suc k) =
      length-append (levels_below k S K) (filter (λ i. eqb (size i.premise) k) (basis_known S K))
      ∙ ap (λ n. n + length (filter (λ i. eqb (size i.premise) k) (basis_known S K))) (levels_length k) ∙ sym (split (basis_known S K))
    where
      split : (is : List Rule) → length (filter (λ i. ltb (size i.premise) (suc k)) is) ≡ length
          (filter (λ i. ltb (size i.premise) k) is) + length (filter (λ i. eqb (size i.premise) k) is)
      split [] = omega arith
      split (i ∷ is) = omega (
        arith,
        split is,
        length-filter_cons (λ i. ltb (size i.premise) (suc k)) i is,
        length-filter_cons (λ i. ltb (size i.premise) k) i is,
        length-filter_cons (λ i. eqb (size i.premise) k) i is,
        below_next (size i.premise) k,
      )

  pub by_size_length : length (by_size S K) ≡ length (basis_known S K)
  unfolding by_size
  by_size_length = levels_length (suc K.width) ∙ ap length (filter_all (λ i. ltb (size i.premise) (suc K.width)) (basis_known S K) sizes)

pub by_size_least : (K : Context) (J : List Rule) → J ≡ by_size [] K → IsLeastBasis K J
by_size_least K J e = subst (λ zs. IsLeastBasis K zs) (sym e)
    (least_from_members K (by_size [] K) (by_size_members [] K) (by_size_length [] K))

-- a list of implications is its width and its members
pub list_is : (J : RuleList) (n : ℕ) (ms : List Rule) → J.width ≡ n → J.members ≡ ms → J ≡ record { width = n; members = ms }
list_is J n ms w m = λ i. record { width = w i; members = m i }
