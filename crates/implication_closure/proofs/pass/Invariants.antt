use Rattle.implication_closure.proofs.ClosingLemmas.{IsSwept}
use Rattle.implication_closure.proofs.pass.Given as goal

abbrev pub invariant-loop-k : goal.invariant-loop-k
invariant-loop-k g l = IsSwept l.left l.members l.fn.x l.k l.closed
