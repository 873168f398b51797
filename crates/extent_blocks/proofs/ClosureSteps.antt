-- A closure by the rows at places. The closure lies within what is met, and what is kept lies within the closure.
use Rattle.std.proofs.Common.{◌≡◌, ℕ, ◌+◌, ◌<◌, ◌≤◌, Bool, true, false, ◌&&◌, Some, None, List, [], length, get_or, set}
use Rattle.std.proofs.Common.{length-set, refl, sym, ap, ◌∙◌, subst, arith, ltb}
use Rattle.std.proofs.lemmas.Bool.{false≢true, and_parts, and_from, lt-ltb, ltb-true}
use Rattle.std.proofs.lemmas.List.{get_or_read}
use Rattle.fca_model.specs.Sets.{Set, within, meet, full, size}
use Rattle.fca_model.specs.Context.{Context, closure}
use Rattle.fca_model.specs.Implications.{rule, respects}
use Rattle.fca_model.specs.Exploration.{first_missing}
use Rattle.fca_model.proofs.SetLemmas.{within_refl, within_trans, within_antisymm, within-meet, within_full, length-full, length-meet}
use Rattle.fca_model.proofs.SetLemmas.{get_or-meet, set_within, size-set, size_le, size_strict, strictly_from}
use Rattle.fca_model.proofs.StepLemmas.{first_missing_none}
use Rattle.fca_model.proofs.ClosureLemmas.{length-closure, within-closure, closure_in_rows, respects_from, respects_at}
use Rattle.attr_bits.proofs.DifferenceLemmas.{first_missing-parts}
use Rattle.attr_bits.proofs.PlaceLemmas.{member_below}
use Rattle.extent_blocks.specs.Blocks.{NumberedBlock, IsExtentWith, in_blocks, row_at, contains_at, has_at}
use Rattle.std.proofs.lemmas.List.Sums.{AllPass-from_list_all}
use Rattle.fca_model.proofs.ListLemmas.{all_by_place}

and_lost : (a b : Bool) → b ≡ false → (a && b) ≡ false
and_lost true b e = e
and_lost false b e = refl

module _ (K : Context) (A : Set) where
  -- a row that contains A
  pub row_above : (g : ℕ) → contains_at K A g ≡ true → within (closure K A) (row_at K g) ≡ true
  row_above g t =
      let p = and_parts (ltb g (length K.rows)) (within A (row_at K g)) t in
      respects_at (row_at K g) (rule A (closure K A))
      (AllPass-from_list_all (λ R. respects R (rule A (closure K A))) K.rows (closure_in_rows K A) g [] (ltb-true g (length K.rows) p.0))
      p.1

  -- what lies within each such row
  pub below_rows : (D : Set) → length D ≡ K.width → ((g : ℕ) → contains_at K A g ≡ true → within D (row_at K g) ≡ true)
      → within D (closure K A) ≡ true
  below_rows D e h = within-closure K A D e ∙ all_by_place (λ R. respects R (rule A D)) [] K.rows (λ g l.
      respects_from (row_at K g) (rule A D) (λ w. h g
      (and_from (ltb g (length K.rows)) (within A (row_at K g)) (lt-ltb g (length K.rows) l) w)))

  -- the start
  pub begins : (M : Set) (n : ℕ) → M ≡ full n → n ≡ K.width → (length M ≡ K.width) × (within (closure K A) M ≡ true)
  begins M n m e =
      let f : M ≡ full K.width = m ∙ ap full e in
      (ap length f ∙ length-full K.width, ap (within (closure K A)) f ∙ within_full K.width (closure K A) (length-closure K A))

  module _ (i : ℕ) (Ps : List NumberedBlock) (extent : IsExtentWith K A i Ps) (M B : Set) (m_wide : length M ≡ K.width) (b_wide : length B ≡ K.width)
      (above : within (closure K A) M ≡ true) (below : within B (closure K A) ≡ true) (k : ℕ) (missing : first_missing 0 M B ≡ Some k) where
    pub missing_inside : k < K.width
    missing_inside = omega (arith, member_below M k (first_missing-parts M B k missing).0, m_wide)

    -- a row that lacks it
    module _ (g : ℕ) (found : in_blocks Ps g ≡ true) (with : has_at K i g ≡ true) (lacks : has_at K k g ≡ false) (R N : Set)
        (r : R ≡ get_or K.rows g R) (n : N ≡ meet M R) where
      contains : contains_at K A g ≡ true
      contains = sym (extent g) ∙ and_from (in_blocks Ps g) (has_at K i g) found with

      pub place_inside : g < length K.rows
      place_inside = ltb-true g (length K.rows) (and_parts (ltb g (length K.rows)) (within A (row_at K g)) contains).0

      row : R ≡ row_at K g
      row = get_or_read K.rows g R place_inside r []

      pub met_wide : length N ≡ K.width
      met_wide = ap length n ∙ length-meet M R ∙ m_wide

      pub met_above : within (closure K A) N ≡ true
      met_above =
          ap (within (closure K A)) n ∙ within-meet (closure K A) M R
          ∙ and_from (within (closure K A) M) (within (closure K A) R) above
          (subst (λ X. within (closure K A) X ≡ true) (sym row) (row_above g contains))

      pub met_less : size N < size M
      met_less =
          let part = (and_parts (within (meet M R) M) (within (meet M R) R) (sym (within-meet (meet M R) M R) ∙ within_refl (meet M R))).0
          in
          let lost : get_or N k false ≡ false = ap (λ X. get_or X k false) n ∙ get_or-meet M R k
          ∙ and_lost (get_or M k false) (get_or R k false) (ap (λ X. get_or X k false) row ∙ lacks) in
          size_strict N M (met_wide ∙ sym m_wide)
          (strictly_from N M (subst (λ X. within X M ≡ true) (sym n) part)
          (λ e. false≢true (sym lost ∙ ap (λ X. get_or X k false) e ∙ (first_missing-parts M B k missing).0)))

    -- none lacks it
    module _ (none : (g : ℕ) → in_blocks Ps g ≡ true → has_at K i g ≡ true → has_at K k g ≡ true) (N : Set) (n : N ≡ set B k true) where
      pub kept_wide : length N ≡ K.width
      kept_wide = ap length n ∙ length-set B k true ∙ b_wide

      pub kept_below : within N (closure K A) ≡ true
      kept_below =
          ap (λ X. within X (closure K A)) n
          ∙ below_rows (set B k true) (length-set B k true ∙ b_wide) (λ g t.
          let p = and_parts (in_blocks Ps g) (has_at K i g) (extent g ∙ t) in
          set_within B (row_at K g) k (within_trans B (closure K A) (row_at K g) below (row_above g t)) (none g p.0 p.1))

      pub kept_more : (size N ≡ size B + 1) × (size N ≤ K.width)
      kept_more =
          let le : size N ≤ length N = size_le N in (
            ap size n ∙ size-set B k (omega (arith, missing_inside, b_wide)) (first_missing-parts M B k missing).1,
            omega (arith, le, kept_wide),
          )

  -- the end
  pub ends : (M B : Set) → length M ≡ K.width → within (closure K A) M ≡ true → within B (closure K A) ≡ true → first_missing 0 M B ≡ None
      → M ≡ closure K A
  ends M B wide above below none =
      within_antisymm M (closure K A) (wide ∙ sym (length-closure K A))
      (within_trans M B (closure K A) (first_missing_none 0 M B none) below) above
