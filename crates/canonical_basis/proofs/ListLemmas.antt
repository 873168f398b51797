-- The context of a list: the sets that respect the list are its closed sets, and the closure of a set in it is the least superset
-- that respects the list.
use Rattle.std.proofs.Common.{◌≡◌, ℕ, Bool, true, false, not, ◌||◌, List, [], length, refl, sym, ap, ◌∙◌, subst, eqb, eqb-true}
use Rattle.std.proofs.lemmas.Bool.{and_parts}
use Rattle.std.proofs.lemmas.List.Folds.{list_all-map}
use Rattle.std.specs.List.{list_all}
use mathlib.Core.Bool.{beq}
use Rattle.fca_model.specs.Sets.{Set, within, all_sets}
use Rattle.fca_model.specs.Context.{closure, is_closed}
use Rattle.fca_model.specs.Implications.{Rule, rule, premises, respects, respects_all, holds, equivalent}
use Rattle.fca_model.specs.Pseudo.{basis_known}
use Rattle.fca_model.proofs.ListLemmas.{bool_iff, implies_from, implies_at, list_all_from, list_all-mono, list_all-filter}
use Rattle.fca_model.proofs.SetLemmas.{within_refl, within_antisymm, same-true, same_from, all_sets_at, all_sets_from}
use Rattle.fca_model.proofs.ClosureLemmas.{length-closure, closure_extensive, closure_monotone, closure_idempotent, closure_in_rows}
use Rattle.fca_model.proofs.ClosureLemmas.{holds_by_rows, respects_at}
use Rattle.fca_model.proofs.PseudoLemmas.{closed_respects, respecting_closed, holds_respected}
use Rattle.fca_model.proofs.InvariantLemmas.{each}
use Rattle.implication_closure.specs.Closing.{RuleList, has_width, HaveWidth, IsClosure}
use Rattle.pseudo_levels.specs.Search.{AreWide}
use Rattle.canonical_basis.specs.Reduced.{context_of}

module _ (L : RuleList) (even : HaveWidth L.width L.members) where
  -- each member holds
  pub members_hold : list_all (holds (context_of L)) L.members ≡ true
  members_hold =
      let K = context_of L in
      let n = L.width in
      each (holds K) L.members (λ i among.
      let widths = and_parts (eqb (length i.premise) n) (eqb (length i.conclusion) n) (among (has_width n) even) in
      holds_by_rows K i (eqb-true (length i.conclusion) n widths.1)
      ∙ list_all-filter (λ row. respects row i) (respects_all L.members) (all_sets n)
      ∙ list_all_from (λ T. not (respects_all L.members T) || respects T i)
      (λ T. implies_from (respects_all L.members T) (respects T i) (λ r. among (respects T) r)) (all_sets n))

  -- a set that respects the list is closed, and the other way round
  pub respecting_is_closed : (T : Set) → length T ≡ L.width → respects_all L.members T ≡ true → is_closed (context_of L) T ≡ true
  respecting_is_closed T e r =
      let K = context_of L in
      let D = closure K T in
      let rows = sym (list_all-filter (λ row. respects row (rule T D)) (respects_all L.members) (all_sets L.width)) ∙ closure_in_rows K T in
      let mine = implies_at (respects_all L.members T) (respects T (rule T D))
      (all_sets_at (λ row. not (respects_all L.members row) || respects row (rule T D)) L.width T e rows) r in
      same_from T D (within_antisymm T D (e ∙ sym (length-closure K T)) (closure_extensive K T e)
      (respects_at T (rule T D) mine (within_refl T)))

  pub closed_is_respecting : (T : Set) → length T ≡ L.width → is_closed (context_of L) T ≡ true → respects_all L.members T ≡ true
  closed_is_respecting T e c = list_all-mono (holds (context_of L)) (respects T)
      (λ i h. holds_respected (context_of L) T i c h) L.members members_hold

  -- the closure is the least superset that respects the list
  pub closure_is : (X C : Set) → length X ≡ L.width → IsClosure L.members X C → C ≡ closure (context_of L) X
  closure_is X C e least =
      let K = context_of L in
      let D = closure K X in
      let wide : length C ≡ L.width = least.wide ∙ e in
      let closed_D : is_closed K D ≡ true = same_from D (closure K D) (sym (closure_idempotent K X e)) in
      let closed_C : C ≡ closure K C = same-true C (closure K C) (respecting_is_closed C wide least.respecting) in
      within_antisymm C D (wide ∙ sym (length-closure K X))
      (least.least D (closure_extensive K X e) (closed_is_respecting D (length-closure K X) closed_D))
      (subst (λ Y. within D Y ≡ true) (sym closed_C) (closure_monotone K X C least.above))

  -- the basis is equivalent to the list
  pub basis_equivalent : (J : List Rule) → J ≡ basis_known [] (context_of L) → equivalent L.width J L.members ≡ true
  unfolding equivalent
  basis_equivalent J is = all_sets_from (λ T. beq (respects_all J T) (respects_all L.members T)) L.width (λ T e.
      let K = context_of L in
      let a = respects_all J T in
      let b = respects_all L.members T in
      let same_answer : a ≡ b = bool_iff a b
      (λ r. closed_is_respecting T e (respecting_closed [] K T e refl (subst (λ js. respects_all js T ≡ true) is r)))
      (λ r. subst (λ js. respects_all js T ≡ true) (sym is) (closed_respects [] K T e (respecting_is_closed T e r))) in
      ap (λ x. beq x b) same_answer ∙ beq_same b)
    where
      beq_same : (b : Bool) → beq b b ≡ true
      beq_same true = refl
      beq_same false = refl

-- the premises have the width
pub premises_wide : (n : ℕ) (J : List Rule) → HaveWidth n J → AreWide n (premises J)
premises_wide n J h = list_all-map (λ X. eqb (length X) n) (λ (i : Rule). i.premise) J
    ∙ list_all-mono (has_width n) (λ i. eqb (length i.premise) n)
    (λ i t. (and_parts (eqb (length i.premise) n) (eqb (length i.conclusion) n) t).0) J h
