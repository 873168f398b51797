use Rattle.std.proofs.Common.{◌++◌}
use Rattle.lectic_concepts.specs.Steps.{branch_of}
use Rattle.lectic_concepts.specs.declared.children.Step.{Step}
use Rattle.lectic_concepts.proofs.RoomLemmas.{rooms}
use Rattle.lectic_concepts.proofs.StepLemmas.{IsWalk}
use Rattle.lectic_concepts.proofs.tree.add_branch.Given as goal

abbrev pub invariant-loop-step : goal.invariant-loop-step
invariant-loop-step g l =
    IsWalk l.fn.first.rows.width (l.fn.all.items ++ branch_of l.fn.first l.fn.first.from) l.steps.items l.all.items

abbrev pub decreases-loop-step : goal.decreases-loop-step
decreases-loop-step g l = rooms l.fn.first.rows.width (λ (step : Step g.row.W). step.from) (λ (step : Step g.row.W). step.end) l.steps.items
