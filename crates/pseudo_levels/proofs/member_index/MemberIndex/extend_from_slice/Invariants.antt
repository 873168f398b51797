use Rattle.std.proofs.Common.{◌≡◌, ◌++◌, take}
use Rattle.pseudo_levels.proofs.member_index.MemberIndex.extend_from_slice.Given as goal

abbrev pub invariant-loop-i : goal.invariant-loop-i
invariant-loop-i l = l.self ≡ record l.initial.self { members = l.initial.self.members ++ take l.i-index l.more }
