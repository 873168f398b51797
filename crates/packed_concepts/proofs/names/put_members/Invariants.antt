use Rattle.std.proofs.Common.{◌≡◌, ◌≤◌, ◌+◌, ◌*◌, ◌++◌, ◌-◌, length, take}
use Rattle.std.specs.List.{concat}
use Rattle.expert_wire.specs.Texts.{names_of}
use Rattle.expert_wire.proofs.ListedLemmas.{names_from}
use Rattle.packed_concepts.proofs.names.put_members.Given as goal

-- what was put down, followed by the names that are left
abbrev pub invariant-loop-member : goal.invariant-loop-member
invariant-loop-member g l = record {
  in_range : l.from ≤ length l.set;
  begins : l.fn.start ≤ l.end;
  ends : l.end ≤ l.fn.start + 257 * l.from;
  room : length l.text ≡ length l.fn.text;
  written : take l.end l.text ++ concat (names_from l.from l.pieces l.set) ≡ take l.fn.start l.fn.text ++ concat (names_of l.pieces l.set);
}

abbrev pub decreases-loop-member : goal.decreases-loop-member
decreases-loop-member g l = length l.set - l.from
