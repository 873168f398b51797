-- A list of intents above A of which each intent above A contains one, and none lies strictly within another, is the list of the next
-- larger intents. An intent strictly between A and X contains a set of the list, and that lies strictly within X. A next larger intent of A
-- contains a set of the list, and that lies strictly above A, so it is that intent itself.
use Rattle.std.proofs.Common.{◌≡◌, Bool, true, not, ◌&&◌, List, filter, sym, ap, ◌∙◌, subst, inl, inr}
use Rattle.std.proofs.lemmas.Bool.{false≢true, and_parts, and_from, cases_Bool}
use Rattle.std.specs.List.{list_all}
use Rattle.fca_model.specs.Sets.{Set, within, strictly_within}
use Rattle.fca_model.specs.Context.{Context}
use Rattle.fca_model.specs.Pseudo.{intents, is_cover}
use Rattle.fca_model.proofs.SetLemmas.{within_trans, within_antisymm, strictly-parts, strictly_from, same_decides}
use Rattle.fca_model.proofs.SortedLemmas.{at_member, same_members, increasing-filter, in_filter, of_filter}
use Rattle.lectic_concepts.proofs.IntentLemmas.{In, of_intents, intents_increasing}
use Rattle.lattice_covers.proofs.CandidateLemmas.{LeadUp}
use Rattle.lattice_covers.proofs.MemberLemmas.{all_from_members, member_of_any}

module _ (K : Context) (A : Set) (Cs : List Set) (h : LeadUp K A Cs) where
  -- an intent strictly between
  abbrev between : Set → Set → Bool
  between X C = strictly_within A C && strictly_within C X

  -- there is none below a set of the list
  none_between : (X C : Set) → In X Cs → In C (intents K) → not (between X C) ≡ true
  none_between X C x c = elim (cases_Bool (between X C)) [
    | inl b ↦
        let parts = and_parts (strictly_within A C) (strictly_within C X) b in
        let d = member_of_any (λ D. within D C) Cs (h.complete C c parts.0) in
        let cx = strictly-parts C X parts.1 in
        absurd (h.alone d.0 X d.1 x (strictly_from d.0 X (within_trans d.0 C X d.2 cx.0)
        (λ e. cx.1 (within_antisymm C X ((of_intents K C c).wide ∙ sym (of_intents K X (h.sound X x).0).wide) cx.0
        (subst (λ D. within D C ≡ true) e d.2)))))
    | inr f ↦ ap not f
  ]

  -- a set of the list that lies strictly within X is strictly between
  none_smaller : (X D : Set) → list_all (λ C. not (between X C)) (intents K) ≡ true → In D Cs → strictly_within D X ≡ true → ⊥
  none_smaller X D none d s =
      let up = h.sound D d in
      false≢true (sym (ap not (and_from (strictly_within A D) (strictly_within D X) up.1 s))
      ∙ at_member (λ C. not (between X C)) D (intents K) up.0 none)

  is_found : (X : Set) → In X (intents K) → is_cover (intents K) A X ≡ true → In X Cs
  is_found X x t =
      let cover = and_parts (strictly_within A X) (list_all (λ C. not (between X C)) (intents K)) t in
      let d = member_of_any (λ D. within D X) Cs (h.complete X x cover.0) in
      elim (same_decides d.0 X) [
        | inl equal ↦ subst (λ Y. In Y Cs) equal.1 d.1
        | inr other ↦ absurd (none_smaller X d.0 cover.1 d.1 (strictly_from d.0 X d.2 other.1))
      ]

  pub they_are_covers : Cs ≡ filter (is_cover (intents K) A) (intents K)
  they_are_covers = same_members Cs (filter (is_cover (intents K) A) (intents K)) h.ordered
      (increasing-filter (is_cover (intents K) A) (intents K) (intents_increasing K))
      (λ X m.
      let up = h.sound X m in
      in_filter (is_cover (intents K) A) X (intents K) up.0
      (and_from (strictly_within A X) (list_all (λ C. not (between X C)) (intents K)) up.1
      (all_from_members (λ C. not (between X C)) (intents K) (λ C c. none_between X C m c))))
      (λ X m. let parts = of_filter (is_cover (intents K) A) X (intents K) m in is_found X parts.0 parts.1)
