use Rattle.std.proofs.Common.{◌≡◌, ℕ, ◌<◌, ◌+◌, false, length, get_or}
use Rattle.text_pieces.specs.Marks.{mark_of}
use Rattle.text_pieces.proofs.marks.marks_of.Given as goal

abbrev pub invariant-loop-j : goal.invariant-loop-j
invariant-loop-j g l = record {
  count : length l.marks ≡ g.row.N;
  done : (k : ℕ) → k < l.j → get_or l.marks k 0 ≡ mark_of (get_or l.set (l.from + k) false);
}
