use Rattle.std.proofs.Common.{◌≡◌, ◌<◌, ℕ, length, map, get_or, []}
use Rattle.extent_blocks.specs.Blocks.{IsColumn}
use Rattle.extent_blocks.proofs.rows.columns_of.Given as goal

abbrev pub invariant-loop-i : goal.invariant-loop-i
invariant-loop-i g l = record {
  room : length l.columns.items ≡ l.i;
  columns : (j : ℕ) → j < l.i → IsColumn l.rows j (get_or (map (λ v. v.items) l.columns.items) j []);
}
