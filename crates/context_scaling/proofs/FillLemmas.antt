-- One place more of a row is filled.
use Rattle.std.proofs.Common.{◌≡◌, ◌∙◌, ◌<◌, ◌+◌, ◌-◌, ◌++◌, ◌∷◌, [], ℕ, suc, Bool, true, false, length, take, set, get_or, replicate, refl}
use Rattle.std.proofs.Common.{sym, ap, arith, append_assoc, length-set}
use Rattle.std.proofs.lemmas.List.{length-take-le, take_more, take_more_set, get_or_at}
use Rattle.fca_model.specs.Sets.{Set}
use Rattle.csv_context.proofs.FormLemmas.{set-front}
use Rattle.context_scaling.specs.Marks.{IsFilled}

module _ (row : Set) (at : ℕ) (filled : IsFilled row at) (below : at < length row) where
  front_length : length (take at row) ≡ at
  front_length = length-take-le at row (omega arith)

  one_less : length row - at ≡ suc (length row - (at + 1))
  one_less = omega arith

  row_is : row ≡ take at row ++ replicate (suc (length row - (at + 1))) false
  row_is = filled ∙ rw one_less refl

  pub take_cross : take (at + 1) (set row at true) ≡ take at row ++ true ∷ []
  take_cross = take_more_set row at true below

  pub IsFilled_cross : IsFilled (set row at true) (at + 1)
  IsFilled_cross =
      ap (λ (r : Set). set r at true) row_is
      ∙ set-front (take at row) at (length row - (at + 1)) front_length
      ∙ rw (take_cross, length-set row at true) refl

  is_none : get_or row at false ≡ false
  is_none = ap (λ (r : Set). get_or r at false) row_is
      ∙ get_or_at (take at row) false (replicate (length row - (at + 1)) false) false at front_length

  pub take_none : take (at + 1) row ≡ take at row ++ false ∷ []
  take_none = take_more row at false below ∙ ap (λ (mark : Bool). take at row ++ mark ∷ []) is_none

  pub IsFilled_none : IsFilled row (at + 1)
  IsFilled_none = row_is ∙ sym (append_assoc (take at row) (false ∷ []) (replicate (length row - (at + 1)) false)) ∙ rw take_none refl
