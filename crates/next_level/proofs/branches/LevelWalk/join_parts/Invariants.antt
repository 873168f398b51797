use Rattle.next_level.specs.Branches.{AreOpen, in_parts}
use Rattle.next_level.proofs.branches.LevelWalk.join_parts.Given as goal

abbrev pub invariant-loop-part : goal.invariant-loop-part
invariant-loop-part g l =
    AreOpen l.self.list.members l.self.indexed (in_parts l.count l.part l.self.least) l.fn.limits.bound l.all.bound l.all.members.items
