use Rattle.std.proofs.Common.{◌*◌, min, length}
use Rattle.text_pieces.proofs.MarkLemmas.{CrossedTo}
use Rattle.text_pieces.proofs.marks.set_of_marks.Given as goal

abbrev pub invariant-loop-block : goal.invariant-loop-block
invariant-loop-block l = CrossedTo l.cells l.set (min (length l.cells) (64 * l.block))
