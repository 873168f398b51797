use Rattle.std.proofs.Common.{◌≡◌, ℕ, ◌<◌, ◌≤◌, get_or, length, bit_and}
use Rattle.attr_bits.proofs.Bits.keep.Given as goal

abbrev pub invariant-loop-k : goal.invariant-loop-k
invariant-loop-k g l = record {
  count : length l.self-inside.words ≡ g.row.W;
  width : l.self-inside.width ≡ l.initial.self-inside.width;
  done : (j : ℕ) → j < l.k → get_or l.self-inside.words j 0 ≡ bit_and (get_or l.initial.self-inside.words j 0)
      (get_or l.other-inside.words j 0);
  rest : (j : ℕ) → l.k ≤ j → get_or l.self-inside.words j 0 ≡ get_or l.initial.self-inside.words j 0;
}
