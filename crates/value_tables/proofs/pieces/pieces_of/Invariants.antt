use Rattle.std.proofs.Common.{◌≡◌, length, take}
use Rattle.value_tables.proofs.PieceLemmas.{SoFar}
use Rattle.value_tables.proofs.pieces.pieces_of.Given as goal

abbrev pub invariant-loop-byte : goal.invariant-loop-byte
invariant-loop-byte l = record {
  so_far : SoFar (take l.byte-index l.line) l.text l.lengths l.count l.start l.end;
  room : length l.text ≡ 256;
  places : length l.lengths ≡ 256;
}
