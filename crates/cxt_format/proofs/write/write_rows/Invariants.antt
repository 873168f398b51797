use Rattle.std.proofs.Common.{◌≡◌, ◌++◌, map, drop}
use Rattle.text_pieces.specs.Lines.{text_of}
use Rattle.text_pieces.specs.Marks.{marks_of}
use Rattle.cxt_format.proofs.write.write_rows.Given as goal

abbrev pub invariant-loop-i : goal.invariant-loop-i
invariant-loop-i l = l.text.items ++ text_of (map marks_of (drop l.i l.rows.rows)) ≡ l.fn.text.items ++ text_of (map marks_of l.rows.rows)
