use Rattle.std.proofs.Common.{◌≡◌, ◌*◌}
use Rattle.context_reduce.proofs.BlockLemmas.{meet_before}
use Rattle.context_reduce.proofs.larger.meet_of_strictly_larger.Given as goal

abbrev pub invariant-loop-k : goal.invariant-loop-k
invariant-loop-k g l = l.met ≡ meet_before l.set l.rows (l.k * 256)
