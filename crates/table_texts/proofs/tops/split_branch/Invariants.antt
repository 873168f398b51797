use Rattle.std.proofs.Common.{◌≡◌, ◌≤◌, ◌++◌, All}
use Rattle.lectic_concepts.specs.Branches.{branch, AreWitnesses}
use Rattle.concept_walk.specs.Nodes.{AreCandidates}
use Rattle.table_texts.specs.Tops.{IsTop, branches}
use Rattle.table_texts.proofs.tops.split_branch.Given as goal

abbrev pub invariant-loop-candidates : goal.invariant-loop-candidates
invariant-loop-candidates g l = record {
  from_on : l.node.from ≤ l.candidates.end;
  candidates : AreCandidates l.crosses l.node.intent.now l.candidates;
  noted : AreWitnesses l.crosses l.node.intent.now l.work_lists.noted.items;
  tops : All (IsTop l.crosses) l.more.items;
  laid : branches l.crosses l.more.items ≡ branches l.crosses l.fn.more.items ++ branch l.crosses l.node.intent.now l.candidates.end;
}

abbrev pub decreases-loop-candidates : goal.decreases-loop-candidates
decreases-loop-candidates g l = l.candidates.end
