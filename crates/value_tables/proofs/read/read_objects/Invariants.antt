use Rattle.std.proofs.Common.{◌≡◌, ◌≤◌, ◌+◌, ◌*◌, [], length}
use Rattle.fca_model.specs.declared.TheConstants.{MAX_OBJECTS}
use Rattle.csv_context.specs.Records.{IsOpenReader, records_left}
use Rattle.value_tables.specs.Cells.{AreCells, objects_of, texts}
use Rattle.value_tables.specs.Form.{objects_form}
use Rattle.value_tables.proofs.read.read_objects.Given as goal

abbrev pub invariant-loop-record : goal.invariant-loop-record
invariant-loop-record l = record {
  opened : IsOpenReader l.reader;
  few : length l.names.items ≤ MAX_OBJECTS;
  cells : AreCells l.cells;
  even : length (texts l.cells) ≡ length l.names.items * l.width;
  says : objects_form l.width (length l.names.items + 2) (objects_of l.width l.names.items (texts l.cells)) (records_left l.reader)
      ≡ objects_form l.width 2 [] (records_left l.fn.reader);
}

abbrev pub decreases-loop-record : goal.decreases-loop-record
decreases-loop-record l = length (records_left l.reader)
