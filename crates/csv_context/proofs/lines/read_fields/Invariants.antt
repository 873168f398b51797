use Rattle.std.proofs.Common.{◌≡◌, ◌++◌, [], length}
use Rattle.csv.specs.Records.{fields_of, partial_of}
use Rattle.csv_context.specs.Lines.{fields_behind, fields_in}
use Rattle.csv_context.proofs.lines.read_fields.Given as goal

abbrev pub invariant-loop-rest : goal.invariant-loop-rest
invariant-loop-rest l = record {
  fields : fields_of l.fields ++ fields_behind l.rest ≡ fields_in l.line;
  whole : partial_of l.fields ≡ [];
}

abbrev pub decreases-loop-rest : goal.decreases-loop-rest
decreases-loop-rest l = length (fields_behind l.rest)
