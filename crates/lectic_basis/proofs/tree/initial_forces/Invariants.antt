use Rattle.std.proofs.Common.{◌≡◌, ℕ, ◌<◌, length, get_or}
use Rattle.lectic_basis.proofs.tree.initial_forces.Given as goal

abbrev pub invariant-loop-i : goal.invariant-loop-i
invariant-loop-i g l = record {
  long : length l.forced.items ≡ l.i;
  own : (k : ℕ) → k < l.i → get_or l.forced.items k 0 ≡ k;
}
