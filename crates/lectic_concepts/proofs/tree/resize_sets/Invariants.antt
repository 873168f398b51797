use Rattle.std.proofs.Common.{◌≡◌, take}
use Rattle.lectic_concepts.proofs.tree.resize_sets.Given as goal

abbrev pub invariant-loop-set : goal.invariant-loop-set
invariant-loop-set g l = l.all.items ≡ take l.set-index l.sets
