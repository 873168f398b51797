use Rattle.std.proofs.Common.{length}
use Rattle.lectic_concepts.specs.Concepts.{AreConcepts}
use Rattle.lectic_concepts.proofs.extents.find_concept.Given as goal

abbrev pub invariant-loop-last : goal.invariant-loop-last
invariant-loop-last g l = AreConcepts l.rows l.chain.items

abbrev pub decreases-loop-last : goal.decreases-loop-last
decreases-loop-last g l = length l.chain.items
