use Rattle.std.proofs.Common.{◌≡◌, ◌≤◌}
use Rattle.lectic_concepts.specs.Branches.{branch, AreWitnesses}
use Rattle.concept_walk.proofs.branch.next_child.Given as goal

abbrev pub invariant-loop-i : goal.invariant-loop-i
invariant-loop-i g l = record {
  from_on : l.node.from ≤ l.place;
  inside : l.place ≤ l.candidates.end;
  noted : AreWitnesses l.crosses l.node.intent.now l.work_lists.noted.items;
  none : branch l.crosses l.node.intent.now l.place ≡ branch l.crosses l.node.intent.now l.candidates.end;
}

abbrev pub decreases-loop-i : goal.decreases-loop-i
decreases-loop-i g l = l.place
