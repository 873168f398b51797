use Rattle.std.proofs.Common.{◌≡◌, ◌≤◌}
use Rattle.lectic_concepts.specs.Branches.{branch, AreWitnesses}
use Rattle.lectic_concepts.proofs.children.last_child.Given as goal

abbrev pub invariant-loop-i : goal.invariant-loop-i
invariant-loop-i g l = record {
  from_on : l.from ≤ l.i;
  inside : l.i ≤ l.end;
  witnesses : AreWitnesses l.rows l.a l.witnesses.items;
  none : branch l.rows l.a l.i ≡ branch l.rows l.a l.end;
}
