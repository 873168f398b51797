use Rattle.std.proofs.Common.{◌≡◌, ◌+◌, [], length}
use Rattle.csv_context.specs.Records.{IsOpenReader, records_left}
use Rattle.context_scaling.specs.Scaling.{Fits, made_names}
use Rattle.context_scaling.specs.PlanForm.{records_form}
use Rattle.context_scaling.proofs.read.read_left.Given as goal

abbrev pub invariant-loop-names : goal.invariant-loop-names
invariant-loop-names l = record {
  opened : IsOpenReader l.reader;
  names : l.names.keys ≡ made_names l.records.items;
  fits : Fits l.records.items l.values;
  says : records_form l.values (length l.records.items + 1) l.records.items (records_left l.reader) ≡ records_form l.values 1 []
      (records_left l.fn.reader);
}

abbrev pub decreases-loop-names : goal.decreases-loop-names
decreases-loop-names l = length (records_left l.reader)
