use Rattle.std.proofs.Common.{◌≡◌, ◌≤◌, ℕ, drop, length}
use Rattle.csv_context.specs.Cells.{ReadTo}
use Rattle.csv_context.specs.Lines.{fields_in}
use Rattle.csv_context.proofs.cells.begin_row.Given as goal

abbrev pub invariant-loop-left : goal.invariant-loop-left
invariant-loop-left l = record {
  wide : length l.row ≡ l.width;
  within : l.place ≤ l.width;
  read : (i : ℕ) → ReadTo i l.width (fields_in l.cells) l.row l.place;
  left : drop l.place (fields_in l.cells) ≡ fields_in l.left;
}

abbrev pub decreases-loop-left : goal.decreases-loop-left
decreases-loop-left l = length l.left
