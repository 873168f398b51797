use Rattle.std.proofs.Common.{◌≡◌, ◌≤◌, ◌+◌, ◌++◌, ◌-◌, length, take}
use Rattle.expert_wire.specs.Texts.{names_of}
use Rattle.expert_wire.proofs.ListedLemmas.{names_from}
use Rattle.table_texts.specs.Joined.{joined}
use Rattle.table_texts.proofs.attribute_names.AttributeNames.put_nearly_all.Given as goal

-- what was put down, followed by the names that are left
abbrev pub invariant-loop-other : goal.invariant-loop-other
invariant-loop-other g l = record {
  in_range : l.from ≤ length l.set;
  ends : l.end ≤ l.fn.start + length (joined (take l.from l.self));
  room : length l.text ≡ length l.fn.text;
  written : take l.end l.text ++ joined (names_from l.from l.self l.set) ≡ take l.fn.start l.fn.text ++ joined (names_of l.self l.set);
}

abbrev pub decreases-loop-other : goal.decreases-loop-other
decreases-loop-other g l = length l.set - l.from
