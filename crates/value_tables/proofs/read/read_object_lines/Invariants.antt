use Rattle.std.proofs.Common.{◌≡◌, ◌≤◌, ◌+◌, ◌*◌, [], length}
use Rattle.fca_model.specs.declared.TheConstants.{MAX_OBJECTS}
use Rattle.csv_context.specs.Lines.{IsUnquoted, records_in}
use Rattle.value_tables.specs.Cells.{AreCells, objects_of, texts}
use Rattle.value_tables.specs.Form.{objects_form}
use Rattle.value_tables.proofs.read.read_object_lines.Given as goal

abbrev pub invariant-loop-line : goal.invariant-loop-line
invariant-loop-line l = record {
  unquoted : IsUnquoted l.left;
  few : length l.names.items ≤ MAX_OBJECTS;
  cells : AreCells l.cells;
  even : length (texts l.cells) ≡ length l.names.items * l.width;
  says : objects_form l.width (length l.names.items + 2) (objects_of l.width l.names.items (texts l.cells)) (records_in l.left)
      ≡ objects_form l.width 2 [] (records_in l.fn.bytes);
}

abbrev pub decreases-loop-line : goal.decreases-loop-line
decreases-loop-line l = length l.left
