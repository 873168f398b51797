use Rattle.std.proofs.Common.{◌≡◌, take}
use Rattle.std.specs.List.{list_all}
use Rattle.text_pieces.specs.Marks.{is_mark}
use Rattle.text_pieces.proofs.marks.are_marks.Given as goal

abbrev pub invariant-loop-byte : goal.invariant-loop-byte
invariant-loop-byte l = l.all ≡ list_all is_mark (take l.byte-index l.cells)
