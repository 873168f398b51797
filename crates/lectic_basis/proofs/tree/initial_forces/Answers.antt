use Rattle.std.proofs.Common.{arith}
use Rattle.lectic_basis.proofs.ForcedLemmas.{forced_first}
use Rattle.lectic_basis.proofs.tree.initial_forces.Goals as goal

pub returns : goal.returns
returns g c = forced_first c.args.found.now.list.members c.args.a.now c.loop-i.forced.items
    (λ i l. c.loop-i.invariant.own i (omega (arith, l, c.loop-i.invariant.long)))
