use Rattle.std.proofs.Common.{◌≡◌, length}
use Rattle.text_pieces.specs.Blanks.{without_blanks_after}
use Rattle.text_pieces.proofs.blanks.without_blanks_after.Given as goal

abbrev pub invariant-loop-rest : goal.invariant-loop-rest
invariant-loop-rest l = without_blanks_after l.rest ≡ without_blanks_after l.fn.line

abbrev pub decreases-loop-rest : goal.decreases-loop-rest
decreases-loop-rest l = length l.rest
