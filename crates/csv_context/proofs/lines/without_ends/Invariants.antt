use Rattle.std.proofs.Common.{◌≡◌, length}
use Rattle.csv_context.specs.Lines.{without_ends}
use Rattle.csv_context.proofs.lines.without_ends.Given as goal

abbrev pub invariant-loop-rest : goal.invariant-loop-rest
invariant-loop-rest l = without_ends l.rest ≡ without_ends l.fn.bytes

abbrev pub decreases-loop-rest : goal.decreases-loop-rest
decreases-loop-rest l = length l.rest
