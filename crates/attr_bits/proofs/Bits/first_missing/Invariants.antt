use Rattle.std.proofs.Common.{◌≡◌, ℕ, ◌<◌, get_or}
use Rattle.attr_bits.proofs.WordwiseLemmas.{lacking}
use Rattle.attr_bits.proofs.Bits.first_missing.Given as goal

abbrev pub invariant-loop-k : goal.invariant-loop-k
invariant-loop-k g l = (j : ℕ) → j < l.k → lacking (get_or l.self-inside.words j 0) (get_or l.other-inside.words j 0) ≡ 0
