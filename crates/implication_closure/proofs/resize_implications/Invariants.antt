use Rattle.std.proofs.Common.{◌≡◌, take}
use Rattle.implication_closure.proofs.resize_implications.Given as goal

abbrev pub invariant-loop-implication : goal.invariant-loop-implication
invariant-loop-implication g l = l.all.items ≡ take l.implication-index l.implications
