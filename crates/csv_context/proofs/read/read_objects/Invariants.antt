use Rattle.std.proofs.Common.{◌≡◌, ◌≤◌, ◌+◌, [], length, vec_len}
use Rattle.fca_model.specs.declared.TheConstants.{MAX_OBJECTS}
use Rattle.csv_context.specs.Records.{IsOpenReader, records_left}
use Rattle.csv_context.specs.Form.{objects_form}
use Rattle.csv_context.proofs.read.read_objects.Given as goal

abbrev pub invariant-loop-record : goal.invariant-loop-record
invariant-loop-record l = record {
  opened : IsOpenReader l.reader;
  few : vec_len l.names ≤ MAX_OBJECTS;
  counted : vec_len l.names ≡ length l.rows.rows;
  wide : l.rows.width ≡ l.width;
  says : objects_form l.width (vec_len l.names + 2) (l.names.items, l.rows.rows) (records_left l.reader) ≡ objects_form l.width 2 ([], [])
      (records_left l.fn.reader);
}

abbrev pub decreases-loop-record : goal.decreases-loop-record
decreases-loop-record l = length (records_left l.reader)
