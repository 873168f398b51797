-- Blocks of rows, which are searched one by one.
use Rattle.std.specs.Prelude.{◌≡◌, ◌≤◌, ◌<◌, ◌+◌, ◌*◌, ℕ, List, length, map, take, drop}
use Rattle.std.specs.List.{range_with_len}
use Rattle.fca_model.specs.Context.{Context}
use Rattle.context_reduce.specs.Reduce.{transpose}

-- the rows of K from place 256 * k on, at most 256
abbrev pub row_block : Context → ℕ → Context
row_block K k = record { width = K.width; rows = take 256 (drop (k * 256) K.rows) }

-- the columns of each block, and no block is empty
pub record AreBlocks (K : Context) (blocks : List Context) : Type 0 where
  pub columns : blocks ≡ map (λ k. transpose (row_block K k)) (range_with_len 0 (length blocks))
  pub whole : length K.rows ≤ length blocks * 256
  pub inside : length blocks * 256 < length K.rows + 256
