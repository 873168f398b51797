use Rattle.std.proofs.Common.{drop}
use Rattle.csv.specs.Records.{fields_of}
use Rattle.csv_context.specs.Cells.{ReadTo}
use Rattle.csv_context.proofs.fields.row_of.Given as goal

abbrev pub invariant-loop-place : goal.invariant-loop-place
invariant-loop-place l = ReadTo l.i l.width (drop 1 (fields_of l.fields)) l.row l.place
