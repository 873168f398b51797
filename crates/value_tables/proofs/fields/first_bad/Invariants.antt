use Rattle.std.proofs.Common.{◌≡◌, ◌+◌, drop}
use Rattle.csv.specs.Records.{fields_of}
use Rattle.value_tables.specs.Form.{first_bad}
use Rattle.value_tables.proofs.fields.first_bad.Given as goal

abbrev pub invariant-loop-place : goal.invariant-loop-place
invariant-loop-place l = first_bad l.kind (l.place + 1) (drop l.place (fields_of l.fields)) ≡ first_bad l.kind (l.from + 1)
    (drop l.from (fields_of l.fields))
