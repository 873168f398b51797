use Rattle.std.proofs.Common.{◌≡◌, ◌&&◌, All, ℕ, length, ltb}
use Rattle.std.specs.Int.{div_ceil}
use Rattle.fca_model.specs.Sets.{within}
use Rattle.extent_blocks.specs.Blocks.{in_column, row_at}
use Rattle.extent_blocks.proofs.rows.places_above.Given as goal

abbrev pub invariant-loop-place : goal.invariant-loop-place
invariant-loop-place g l = record {
  count : length l.column.items ≡ div_ceil (length l.rows.rows) 256;
  wide : All (λ B. length B ≡ 256) l.column.items;
  places : (p : ℕ) → in_column l.column.items p ≡ (ltb p l.place && within l.a (row_at l.rows p));
}
