use Rattle.std.proofs.Common.{◌≤◌, ◌-◌, length}
use Rattle.lectic_concepts.proofs.lasting.count_members.Given as goal

abbrev pub invariant-loop-member : goal.invariant-loop-member
invariant-loop-member g l = l.from ≤ length l.row

abbrev pub decreases-loop-member : goal.decreases-loop-member
decreases-loop-member g l = length l.row - l.from
