use Rattle.std.proofs.Common.{◌≡◌, length}
use Rattle.text_pieces.specs.RemainingLines.{after_blanks}
use Rattle.text_pieces.proofs.lines.Lines.next_filled.Given as goal

abbrev pub invariant-loop-line : goal.invariant-loop-line
invariant-loop-line l = after_blanks l.self ≡ after_blanks l.fn.self

abbrev pub decreases-loop-line : goal.decreases-loop-line
decreases-loop-line l = length l.self.lines
