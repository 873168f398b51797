use Rattle.std.proofs.Common.{◌≡◌, drop}
use Rattle.csv_context.specs.Cells.{ReadTo}
use Rattle.csv_context.specs.Lines.{fields_behind, fields_in}
use Rattle.csv_context.proofs.fields.row_of_cells.Given as goal

abbrev pub invariant-loop-place : goal.invariant-loop-place
invariant-loop-place l = record {
  read : ReadTo l.i l.width (fields_in l.cells) l.row l.place;
  left : drop l.place (fields_in l.cells) ≡ fields_behind l.left;
}
