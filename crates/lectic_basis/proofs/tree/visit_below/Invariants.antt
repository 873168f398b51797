use Rattle.lectic_basis.specs.Steps.{steps_left}
use Rattle.lectic_basis.specs.Walks.{HasFound, IsPart}
use Rattle.lectic_basis.proofs.StepLemmas.{IsWalk}
use Rattle.lectic_basis.proofs.tree.visit_below.Given as goal

abbrev pub invariant-loop-step : goal.invariant-loop-step
invariant-loop-step g l = IsWalk l.known.members l.indexed
    (HasFound l.known.members l.indexed l.fn.first.intent l.fn.first.from (IsPart l.fn.first.intent) l.fn.found) l.steps.items l.found

abbrev pub decreases-loop-step : goal.decreases-loop-step
decreases-loop-step g l = steps_left l.indexed.width l.steps.items
