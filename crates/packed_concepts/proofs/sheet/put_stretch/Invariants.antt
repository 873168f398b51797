use Rattle.std.proofs.Common.{◌≡◌, ◌+◌, ◌++◌, ◌^◌, ◌<◌, ◌≤◌, All, length, take, drop}
use Rattle.packed_concepts.specs.Lines.{lines_from}
use Rattle.packed_concepts.specs.Packing.{total, unpacked, IsNamed}
use Rattle.packed_concepts.specs.Stretches.{lines_on}
use Rattle.packed_concepts.proofs.sheet.put_stretch.Given as goal

-- what was put down, and the lines that are left
abbrev pub invariant-loop-one : goal.invariant-loop-one
invariant-loop-one g l = record {
  end : l.end ≤ length l.text;
  room : length l.text ≡ length l.fn.text;
  fits : total (drop l.one-index l.packed) ≡ length l.rest;
  named : All (IsNamed l.names) (unpacked (drop l.one-index l.packed) l.rest);
  few : l.next + length (drop l.one-index l.packed) < 2 ^ 64;
  laid : take l.end l.text ++ lines_from l.names l.next (unpacked (drop l.one-index l.packed) l.rest)
      ≡ take l.fn.start l.fn.text ++ lines_on l.names l.stretch;
}
