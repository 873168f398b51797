use Rattle.std.proofs.Common.{◌≡◌, ◌*◌, ◌++◌, min, take, length}
use Rattle.text_pieces.specs.Marks.{marks_of}
use Rattle.cxt_format.proofs.write.write_row.Given as goal

abbrev pub invariant-loop-block : goal.invariant-loop-block
invariant-loop-block l = l.text.items ≡ l.fn.text.items ++ marks_of (take (min (length l.row) (64 * l.block)) l.row)
