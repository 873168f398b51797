use Rattle.next_level.specs.LevelWalks.{HasListed, IsSteady}
use Rattle.next_level.specs.Steps.{steps_left}
use Rattle.next_level.proofs.StepLemmas.{IsWalk}
use Rattle.next_level.proofs.walk.visit_below.Given as goal

abbrev pub invariant-loop-step : goal.invariant-loop-step
invariant-loop-step g l = record {
  walk : IsWalk l.indexed (HasListed l.indexed l.fn.first.set l.fn.first.from l.fn.rules) l.steps.items l.rules l.seen.bound
      l.seen.members.items;
  steady : IsSteady l.fn.seen.bound l.fn.seen.members.items l.seen.bound l.seen.members.items;
}

abbrev pub decreases-loop-step : goal.decreases-loop-step
decreases-loop-step g l = steps_left l.indexed.width l.steps.items
