use Rattle.std.proofs.Common.{◌≡◌, ◌≤◌, ◌+◌, ◌*◌, ◌++◌, drop, length, take}
use Rattle.std.specs.List.{concat}
use Rattle.packed_concepts.specs.Lines.{names_at}
use Rattle.packed_concepts.proofs.names.put_places.Given as goal

-- what was put down, followed by the names that are left
abbrev pub invariant-loop-place : goal.invariant-loop-place
invariant-loop-place l = record {
  begins : l.fn.start ≤ l.end;
  ends : l.end ≤ l.fn.start + 257 * l.place-index;
  room : length l.text ≡ length l.fn.text;
  written : take l.end l.text ++ concat (names_at l.pieces (drop l.place-index l.places)) ≡ take l.fn.start l.fn.text ++ concat
      (names_at l.pieces l.places);
}
