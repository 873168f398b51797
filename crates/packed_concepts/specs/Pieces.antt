-- Texts, of each a block with its first bytes, and the bytes behind it where the block is full.
use Rattle.std.specs.Prelude.{◌≡◌, ◌+◌, ◌<◌, ◌≤◌, ℕ, List, [], ◌∷◌, ◌++◌, length, take, slice_index_or}
use Rattle.fca_model.specs.Tables.{Text}
use Rattle.packed_concepts.specs.declared.block.TextBlock.{TextBlock}

-- the text of a block and of what is behind it
abbrev pub piece_text : TextBlock → Text → Text
piece_text b tail = take b.filled b.bytes ++ tail

-- the texts of the blocks, each with the tail at its place
abbrev pub piece_texts : List TextBlock → List Text → List Text
piece_texts [] tails = []
piece_texts (b ∷ bs) [] = []
piece_texts (b ∷ bs) (t ∷ ts) = piece_text b t ∷ piece_texts bs ts

-- a text of at most 257 bytes; what is behind the block is nothing where that is not full
pub record IsPiece (b : TextBlock) (tail : Text) : Type 0 where
  pub block : b.filled ≤ 16
  pub short : b.filled + length tail ≤ 257
  pub alone : b.filled < 16 → tail ≡ []

-- each block with the tail at its place is a text
pub record ArePieces (bs : List TextBlock) (ts : List Text) : Type 0 where
  pub same : length bs ≡ length ts
  pub each : (i : ℕ) (d : TextBlock) → i < length bs → IsPiece (slice_index_or bs i d) (slice_index_or ts i [])
