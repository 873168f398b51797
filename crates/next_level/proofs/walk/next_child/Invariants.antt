use Rattle.std.proofs.Common.{◌≤◌}
use Rattle.next_level.specs.LevelWalks.{HasListed, IsSteady}
use Rattle.next_level.proofs.walk.next_child.Given as goal

abbrev pub invariant-loop-i : goal.invariant-loop-i
invariant-loop-i g l = record {
  from_on : l.step.from ≤ l.i;
  before_end : l.i ≤ l.step.end;
  found : HasListed l.indexed l.step.set l.i l.fn.rules l.rules l.seen.bound l.seen.members.items;
  steady : IsSteady l.fn.seen.bound l.fn.seen.members.items l.seen.bound l.seen.members.items;
}
