use Rattle.std.proofs.Common.{◌*◌, min, length}
use Rattle.cxt_format.proofs.CellLemmas.{ReadTo}
use Rattle.cxt_format.proofs.cells.set_if_marks.Given as goal

abbrev pub invariant-loop-block : goal.invariant-loop-block
invariant-loop-block g l = ReadTo l.cells l.set (min (length l.cells) (64 * l.block))
