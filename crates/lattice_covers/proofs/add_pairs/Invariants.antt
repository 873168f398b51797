use Rattle.std.proofs.Common.{◌≡◌, ◌++◌, drop}
use Rattle.lattice_covers.specs.Neighbours.{pairs_with}
use Rattle.lattice_covers.proofs.add_pairs.Given as goal

-- the pairs so far, followed by those of the sets that are left
abbrev pub invariant-loop-x : goal.invariant-loop-x
invariant-loop-x g l = l.pairs.items ++ pairs_with l.intents l.i (drop l.x-index l.sets) ≡ l.initial.pairs.items
    ++ pairs_with l.intents l.i l.sets
