use Rattle.std.proofs.Common.{◌≡◌, ◌+◌, ◌++◌, drop, length}
use Rattle.context_table.specs.Table.{first_repeat, repeat_from}
use Rattle.csv.specs.Records.{fields_of}
use Rattle.value_tables.proofs.read.read_attributes.Given as goal

abbrev pub invariant-loop-place : goal.invariant-loop-place
invariant-loop-place l = record {
  counted : length l.names.keys + 1 ≡ l.place;
  names : l.names.keys ++ drop l.place (fields_of l.fields) ≡ drop 1 (fields_of l.fields);
  repeats : repeat_from l.names.keys (length l.names.keys) (drop l.place (fields_of l.fields)) ≡ first_repeat (drop 1 (fields_of l.fields));
}
