use Rattle.std.proofs.Common.{◌≤◌}
use Rattle.lectic_basis.specs.Forced.{NoneToTry}
use Rattle.lectic_basis.proofs.tree.last_to_try.Given as goal

abbrev pub invariant-loop-i : goal.invariant-loop-i
invariant-loop-i g l = record {
  from_on : l.from ≤ l.i;
  inside : l.i ≤ l.end;
  none : NoneToTry l.a l.forced l.i l.end;
}
