use Rattle.std.proofs.Common.{◌≤◌}
use Rattle.extent_places.specs.Tries.{LacksBetween}
use Rattle.extent_places.proofs.tries.last_member.Given as goal

abbrev pub invariant-loop-i : goal.invariant-loop-i
invariant-loop-i g l = record {
  inside : l.i ≤ l.end;
  lacks : LacksBetween l.set l.i l.end;
}
