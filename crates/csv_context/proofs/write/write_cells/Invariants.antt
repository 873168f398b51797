use Rattle.std.proofs.Common.{◌≡◌, ◌*◌, ◌++◌, length, min, take}
use Rattle.csv_context.specs.Written.{cells_text}
use Rattle.csv_context.proofs.write.write_cells.Given as goal

abbrev pub invariant-loop-block : goal.invariant-loop-block
invariant-loop-block l = l.text.items ≡ l.fn.text.items ++ cells_text (take (min (length l.row) (64 * l.block)) l.row)
