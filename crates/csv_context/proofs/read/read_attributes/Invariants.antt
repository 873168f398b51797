use Rattle.std.proofs.Common.{◌≡◌, ◌+◌, [], None, drop, length}
use Rattle.context_table.specs.Table.{first_repeat}
use Rattle.csv.specs.Records.{fields_of}
use Rattle.csv_context.specs.Form.{attributes_form}
use Rattle.csv_context.proofs.read.read_attributes.Given as goal

abbrev pub invariant-loop-place : goal.invariant-loop-place
invariant-loop-place l =
    (length l.names.keys + 1 ≡ l.place) × (first_repeat l.names.keys ≡ None)
    × (attributes_form l.names.keys (l.place + 1) (drop l.place (fields_of l.fields)) ≡ attributes_form [] 2 (drop 1 (fields_of l.fields)))
