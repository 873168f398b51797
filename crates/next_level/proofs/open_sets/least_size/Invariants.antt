use Rattle.std.proofs.Common.{take}
use Rattle.next_level.specs.LevelWalks.{IsLeastSize}
use Rattle.next_level.proofs.open_sets.least_size.Given as goal

abbrev pub invariant-loop-member : goal.invariant-loop-member
invariant-loop-member g l = IsLeastSize l.past (take l.member-index l.members) l.least
