-- The verdict is right in both cases. If no row refutes the implication, it holds, so it follows from the basis, and there is a sound
-- derivation. If a row refutes it, it does not hold.
use Rattle.std.proofs.Common.{◌≡◌, ℕ, suc, Bool, true, false, not, ◌&&◌, Option, Some, None, List, [], ◌∷◌, length, get_or, refl, sym, ap}
use Rattle.std.proofs.Common.{ap₂, ◌∙◌, position, eqb, eq-eqb, ltb}
use Rattle.std.specs.List.{list_any, list_all}
use Rattle.std.proofs.lemmas.Bool.{false≢true, and_parts, and_from, or_from, not-true}
use Rattle.std.proofs.lemmas.List.Quantifiers.{position-Some}
use Rattle.std.proofs.lemmas.List.Sums.{AllPass-from_list_all}
use Rattle.fca_model.specs.Sets.{Set, within, join}
use Rattle.fca_model.specs.Context.{Context, closure}
use Rattle.fca_model.specs.Tables.{Text, NamedContext}
use Rattle.fca_model.specs.Implications.{Rule, rule, respects, refutes, holds, follows}
use Rattle.fca_model.specs.Pseudo.{basis}
use Rattle.fca_model.proofs.ClosureLemmas.{holds_by_rows, respects_at, length-closure}
use Rattle.fca_model.proofs.PseudoLemmas.{basis_all, follows_holds}
use Rattle.fca_model.proofs.ValidLemmas.{unrefuted_holds}
use Rattle.implication_closure.specs.Closing.{RuleList, has_width, HaveWidth}
use Rattle.implication_closure.proofs.ClosingLemmas.{position_none}
use Rattle.canonical_basis.specs.Derivations.{premise_at, conclusion_at, is_sound, derivation, derivation_within}
use Rattle.canonical_basis.proofs.DerivationLemmas.{derivation_none, derivation_sound}
use Rattle.basis_report.specs.Verdicts.{first_refuting, verdict, derivation_text, refutation_text, follows_text}

none_any : {X : Type 0} (p : X → Bool) (xs : List X) → list_all (λ x. not (p x)) xs ≡ true → list_any p xs ≡ false
none_any p [] h = refl
none_any p (x ∷ xs) h =
    let parts = and_parts (not (p x)) (list_all (λ x. not (p x)) xs) h in
    or_from (p x) (list_any p xs) (not-true (p x) parts.0) (none_any p xs parts.1)

-- ---- refuted or held

abbrev refuter : Context → Rule → Option ℕ
refuter K i = position (λ row. refutes row i) K.rows

-- an implication that no row refutes holds
unrefuted : (K : Context) (i : Rule) → length i.conclusion ≡ K.width → refuter K i ≡ None → holds K i ≡ true
unrefuted K i e none = unrefuted_holds K i e (none_any (λ row. refutes row i) K.rows (position_none (λ row. refutes row i) K.rows none))

-- no row refutes an implication that holds
none_refutes : (K : Context) (i : Rule) → length i.conclusion ≡ K.width → holds K i ≡ true → refuter K i ≡ None
none_refutes K i e h = go (refuter K i) refl
  where
    go : (o : Option ℕ) → refuter K i ≡ o → refuter K i ≡ None
    go None p = p
    go (Some place) p =
        let there = position-Some (λ row. refutes row i) K.rows place [] p in
        let row = get_or K.rows place [] in
        let broken = and_parts (within i.premise row) (not (within i.conclusion row)) there.1 in
        let kept = AllPass-from_list_all (λ r. respects r i) K.rows (sym (holds_by_rows K i e) ∙ h) place [] there.0 in
        absurd (false≢true (sym (not-true (within i.conclusion row) broken.1) ∙ respects_at row i kept broken.0))

-- an implication that no row refutes follows from the basis
pub unrefuted_follows : (t : NamedContext) (J : RuleList) (P C : Set) → J ≡ record { width = t.context.width; members = basis t.context }
    → length P ≡ t.context.width → length C ≡ t.context.width → position (λ row. refutes row (rule P C)) t.context.rows ≡ None
    → follows J.width J.members (rule P C) ≡ true
unrefuted_follows t J P C is p c none =
    ap (λ (L : RuleList). follows L.width L.members (rule P C)) is ∙ sym (follows_holds [] t.context (rule P C) p c refl)
    ∙ unrefuted t.context (rule P C) c none

-- ---- the steps

-- the places that a sound derivation names are places of the list
pub sound_in_range : (J : List Rule) (C : Set) (steps : List ℕ) (X : Set) → is_sound J X C steps ≡ true
    → list_all (λ i. ltb i (length J)) steps ≡ true
sound_in_range J C [] X h = refl
sound_in_range J C (i ∷ steps) X h =
    let outer = and_parts (ltb i (length J)) (within (premise_at J i) X && is_sound J (join X (conclusion_at J i)) C steps) h in
    let inner = and_parts (within (premise_at J i) X) (is_sound J (join X (conclusion_at J i)) C steps) outer.1 in
    and_from (ltb i (length J)) (list_all (λ i. ltb i (length J)) steps) outer.0
    (sound_in_range J C steps (join X (conclusion_at J i)) inner.1)

basis_wide : (K : Context) → HaveWidth K.width (basis K)
basis_wide K = basis_all [] K (has_width K.width)
    (λ P e q. and_from (eqb (length P) K.width) (eqb (length (closure K P)) K.width) (eq-eqb (length P) K.width e)
    (eq-eqb (length (closure K P)) K.width (length-closure K P)))

-- ---- the verdict

pub verdict_held : (t : NamedContext) (P C : Set) → length P ≡ t.context.width → length C ≡ t.context.width
    → holds t.context (rule P C) ≡ true
    → (steps : List ℕ) × (is_sound (basis t.context) P C steps ≡ true)
    × (follows_text t (basis t.context) P C ≡ derivation_text t.attributes (basis t.context) steps)
unfolding follows_text
verdict_held t P C p c h = go (derivation_within (suc n) J P C) refl
  where
    n : ℕ
    n = t.context.width

    J : List Rule
    J = basis t.context

    go : (o : Option (List ℕ)) → derivation_within (suc n) J P C ≡ o
        → (steps : List ℕ) × (is_sound J P C steps ≡ true)
        × (verdict t J (first_refuting t (rule P C)) (derivation_within (suc n) J P C) ≡ derivation_text t.attributes J steps)
    go None is = absurd (false≢true (sym ((derivation_none n J (basis_wide t.context) C P p None (sym is)).0 refl)
        ∙ sym (follows_holds [] t.context (rule P C) p c refl) ∙ h))
    go (Some steps) is = (steps, derivation_sound J C (suc n) P steps is, ap₂ (verdict t J) (none_refutes t.context (rule P C) c h) is)

pub verdict_refuted : (t : NamedContext) (P C : Set) → length C ≡ t.context.width → holds t.context (rule P C) ≡ false
    → (place : ℕ) × (first_refuting t (rule P C) ≡ Some place) × (follows_text t (basis t.context) P C ≡ refutation_text t place)
unfolding follows_text
verdict_refuted t P C c h = go (first_refuting t (rule P C)) refl
  where
    J : List Rule
    J = basis t.context

    go : (o : Option ℕ) → first_refuting t (rule P C) ≡ o
        → (place : ℕ) × (first_refuting t (rule P C) ≡ Some place)
        × (verdict t J (first_refuting t (rule P C)) (derivation_within (suc t.context.width) J P C) ≡ refutation_text t place)
    go None e = absurd (false≢true (sym h ∙ unrefuted t.context (rule P C) c e))
    go (Some place) e = (place, e, ap (λ o. verdict t J o (derivation_within (suc t.context.width) J P C)) e)

-- ---- the verdict as it is written

pub written_refuted : (t : NamedContext) (J : List Rule) (P C : Set) (place : ℕ) (text : Text) → first_refuting t (rule P C) ≡ Some place
    → text ≡ refutation_text t place → text ≡ follows_text t J P C
unfolding follows_text
written_refuted t J P C place text found e = e ∙ sym (ap (λ o. verdict t J o (derivation_within (suc t.context.width) J P C)) found)

pub written_held : (t : NamedContext) (L : RuleList) (P C : Set) (steps : List ℕ) (text : Text) → L.width ≡ t.context.width
    → first_refuting t (rule P C) ≡ None
    → derivation L P C ≡ Some steps → text ≡ derivation_text t.attributes L.members steps → text ≡ follows_text t L.members P C
unfolding follows_text
written_held t L P C steps text wide none derived e =
    e ∙ sym (ap₂ (verdict t L.members) none (ap (λ n. derivation_within (suc n) L.members P C) (sym wide) ∙ derived))
