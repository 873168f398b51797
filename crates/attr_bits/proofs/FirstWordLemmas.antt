-- Sets of at most 64 attributes. All words but the first are 0, so meets and inclusions are those of the first words.
use Rattle.std.proofs.Common.{◌≡◌, ℕ, ◌<◌, ◌≤◌, true, eqb, List, get_or, set, sym, ap, ◌∙◌, arith, inl, inr, bit_and, eq-eqb, ne_eqb}
use Rattle.std.proofs.Common.{get_or-set_same, get_or-set_other, length-set}
use Rattle.std.proofs.lemmas.Bool.{cases_eq}
use Rattle.fca_model.specs.Sets.{Set, within, meet}
use Rattle.fca_model.proofs.SetLemmas.{within_refl}
use Rattle.attr_bits.proofs.PlaceLemmas.{IsWords}
use Rattle.attr_bits.proofs.WordwiseLemmas.{lacking, meet_is, within_no, within_yes}

module _ {m n v : ℕ} {a b : List ℕ} {A B : Set} (wa : IsWords m a n A) (wb : IsWords m b v B) (narrow : n ≤ 64) where
  abbrev first_met : List ℕ
  first_met = set a 0 (bit_and (get_or a 0 0) (get_or b 0 0))

  pub meet_first : 0 < m → IsWords m first_met n (meet A B)
  meet_first some = meet_is wa wb first_met (length-set a 0 (bit_and (get_or a 0 0) (get_or b 0 0)) ∙ wa.fits.count) 1 (omega arith)
      (λ k l. let first : k ≡ 0 = omega arith in rw first
      (get_or-set_same a 0 (bit_and (get_or a 0 0) (get_or b 0 0)) 0 (omega (arith, wa.fits.count))))
      (λ k le. get_or-set_other a 0 k (bit_and (get_or a 0 0) (get_or b 0 0)) 0 (omega arith))

  pub within_first : eqb (lacking (get_or a 0 0) (get_or b 0 0)) 0 ≡ within A B
  within_first = elim (cases_eq (lacking (get_or a 0 0) (get_or b 0 0)) 0) [
    | inl none ↦ eq-eqb _ 0 none ∙ sym (within_yes wa wb (λ k l. let first : k ≡ 0 = omega arith in rw first none))
    | inr some ↦ ne_eqb _ 0 some ∙ sym (within_no wa wb 0 some)
  ]

-- sets of the same first word
pub within_same : {m n v : ℕ} {a b : List ℕ} {A B : Set} → IsWords m a n A → IsWords m b v B → n ≤ 64 → v ≤ 64 → get_or a 0 0 ≡ get_or b 0 0
    → within A B ≡ true
within_same {b = b} {B = B} wa wb narrow narrow_b e = sym (within_first wa wb narrow) ∙ ap (λ x. eqb (lacking x (get_or b 0 0)) 0) e
    ∙ within_first wb wb narrow_b ∙ within_refl B
