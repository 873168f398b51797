use Rattle.std.proofs.Common.{◌≡◌, ◌&&◌, All, ℕ, length, ltb}
use Rattle.std.specs.Int.{div_ceil}
use Rattle.extent_blocks.specs.Blocks.{in_column, has_at}
use Rattle.extent_blocks.proofs.rows.column_of.Given as goal

abbrev pub invariant-loop-place : goal.invariant-loop-place
invariant-loop-place g l = record {
  count : length l.column.items ≡ div_ceil (length l.rows.rows) 256;
  wide : All (λ B. length B ≡ 256) l.column.items;
  places : (p : ℕ) → in_column l.column.items p ≡ (ltb p l.place && has_at l.rows l.i p);
}
