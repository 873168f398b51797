use Rattle.std.proofs.Common.{length}
use Rattle.lattice_covers.specs.Neighbours.{AreLinks}
use Rattle.lattice_covers.proofs.chain.link_of.Given as goal

abbrev pub invariant-loop-link : goal.invariant-loop-link
invariant-loop-link g l = AreLinks l.rows l.chain.items

abbrev pub decreases-loop-link : goal.decreases-loop-link
decreases-loop-link g l = length l.chain.items
