use Rattle.std.proofs.Common.{◌≡◌, ◌<◌, ℕ, length, get_or, false, []}
use Rattle.extent_places.proofs.columns.column_of.Given as goal

abbrev pub invariant-loop-place : goal.invariant-loop-place
invariant-loop-place g l = record {
  room : length l.having.items ≡ length l.rows.rows;
  have : (p : ℕ) → p < l.place → get_or l.having.items p false ≡ get_or (get_or l.rows.rows p []) l.attribute false;
}
