use Rattle.std.proofs.Common.{◌++◌}
use Rattle.text_pieces.specs.Lines.{text_of}
use Rattle.cxt_format.proofs.TextLemmas.{NamesWritten}
use Rattle.cxt_format.proofs.write.write_attributes.Given as goal

abbrev pub invariant-loop-i : goal.invariant-loop-i
invariant-loop-i l = NamesWritten l.table.attributes l.i l.text.items (l.fn.text.items ++ text_of l.table.attributes)
