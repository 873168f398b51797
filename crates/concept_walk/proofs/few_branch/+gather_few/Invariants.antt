use Rattle.std.proofs.Common.{◌≤◌, ◌-◌}
use Rattle.lectic_concepts.specs.Branches.{branch, AreWitnesses}
use Rattle.concept_walk.specs.Gatherings.{Fills}
use Rattle.concept_walk.proofs.few_branch.+gather_few.Given as goal

abbrev pub decreases-gather_few : goal.decreases-gather_few
decreases-gather_few g l = l.crosses.now.width - l.node.now.from

abbrev pub invariant-loop-i : goal.invariant-loop-i
invariant-loop-i g l = record {
  from_on : l.node.from ≤ l.end;
  inside : l.end ≤ l.crosses.width;
  noted : AreWitnesses l.crosses l.node.intent.now l.work_lists.noted.items;
  filled : Fills l.crosses l.fn.gathering l.gathering (branch l.crosses l.node.intent.now l.end);
}

abbrev pub decreases-loop-i : goal.decreases-loop-i
decreases-loop-i g l = l.end
