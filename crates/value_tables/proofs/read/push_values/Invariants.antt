use Rattle.std.proofs.Common.{◌≡◌, ◌+◌, ◌++◌, None, drop}
use Rattle.csv.specs.Records.{fields_of}
use Rattle.value_tables.specs.Cells.{AreCells, texts}
use Rattle.value_tables.specs.Form.{first_bad}
use Rattle.value_tables.specs.declared.fields.FieldKind.TheVariants as kind
use Rattle.value_tables.proofs.read.push_values.Given as goal

abbrev pub invariant-loop-place : goal.invariant-loop-place
invariant-loop-place l = record {
  cells : AreCells l.cells;
  good : first_bad kind.Value (l.place + 1) (drop l.place (fields_of l.fields)) ≡ None;
  texts : texts l.cells ++ drop l.place (fields_of l.fields) ≡ texts l.fn.cells ++ drop 1 (fields_of l.fields);
}
