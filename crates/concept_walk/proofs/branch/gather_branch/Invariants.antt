use Rattle.lectic_concepts.specs.Branches.{branch}
use Rattle.concept_walk.specs.Steps.{steps_left}
use Rattle.concept_walk.proofs.StepLemmas.{IsWalk}
use Rattle.concept_walk.proofs.branch.gather_branch.Given as goal

abbrev pub invariant-loop-step : goal.invariant-loop-step
invariant-loop-step g l = IsWalk l.crosses (branch l.crosses l.node.intent.now l.node.from) l.fn.gathering l.gathering l.steps.items

abbrev pub decreases-loop-step : goal.decreases-loop-step
decreases-loop-step g l = steps_left l.crosses.width l.steps.items
