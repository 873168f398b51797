-- Numerals of places as blocks.
use Rattle.std.specs.Prelude.{◌≡◌, ◌<◌, ◌≤◌, ℕ, List, length, take, slice_index_or}
use Rattle.expert_wire.specs.Texts.{ordinal}
use Rattle.packed_concepts.specs.declared.block.TextBlock.{TextBlock}

-- the number of a place, counted from 1
pub record IsNumeral (place : ℕ) (b : TextBlock) : Type 0 where
  pub short : b.filled ≤ 16
  pub text : take b.filled b.bytes ≡ ordinal place

-- the numbers of the places from the first on
abbrev pub AreNumerals : List TextBlock → Type 0
AreNumerals bs = (i : ℕ) (d : TextBlock) → i < length bs → IsNumeral i (slice_index_or bs i d)
