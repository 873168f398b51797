use Rattle.std.proofs.Common.{◌≡◌, ◌≤◌, ◌<◌, ◌-◌, true, false, length, get_or}
use Rattle.lectic_concepts.proofs.lasting.rarest_member.Given as goal

abbrev pub invariant-loop-member : goal.invariant-loop-member
invariant-loop-member g l = record {
  from_on : l.from ≤ length l.set;
  before : l.rarest < l.end;
  member : get_or l.set l.rarest false ≡ true;
}

abbrev pub decreases-loop-member : goal.decreases-loop-member
decreases-loop-member g l = length l.set - l.from
