-- A row of a known width that is filled from its first place on.
use Rattle.std.specs.Prelude.{◌≡◌, ℕ, ◌-◌, false, ◌++◌, length, replicate, take}
use Rattle.fca_model.specs.Sets.{Set}

-- the width, and the marks so far
pub record PartialRow : Type 0 where
  pub width : ℕ
  pub marks : Set

-- the row is empty behind its first places
abbrev pub IsFilled : Set → ℕ → Type 0
IsFilled row at = row ≡ take at row ++ replicate (length row - at) false
