use Rattle.std.proofs.Common.{◌≡◌, ◌≤◌, ◌+◌, [], length, vec_len}
use Rattle.fca_model.specs.declared.TheConstants.{MAX_OBJECTS}
use Rattle.csv_context.specs.Lines.{IsUnquoted, records_in}
use Rattle.csv_context.specs.Form.{objects_form}
use Rattle.csv_context.proofs.read.read_object_lines.Given as goal

abbrev pub invariant-loop-line : goal.invariant-loop-line
invariant-loop-line l = record {
  unquoted : IsUnquoted l.left;
  few : vec_len l.names ≤ MAX_OBJECTS;
  counted : vec_len l.names ≡ length l.rows.rows;
  wide : l.rows.width ≡ l.width;
  says : objects_form l.width (vec_len l.names + 2) (l.names.items, l.rows.rows) (records_in l.left) ≡ objects_form l.width 2 ([], [])
      (records_in l.fn.bytes);
}

abbrev pub decreases-loop-line : goal.decreases-loop-line
decreases-loop-line l = length l.left
