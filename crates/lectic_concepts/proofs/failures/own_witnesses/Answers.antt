use Rattle.std.proofs.Common.{arith}
use Rattle.lectic_concepts.proofs.WitnessLemmas.{seen_first}
use Rattle.lectic_concepts.proofs.failures.own_witnesses.Goals as goal

pub returns : goal.returns
returns g c = seen_first c.args.rows.now c.args.a.now c.loop-i.witnesses.items c.requires
    (omega (arith, c.loop-i.invariant.long, c.loop-i-test.false, c.loop-i.auto.i-end, c.width-i-end.ensures.width))
    (λ i l. c.loop-i.invariant.own i (omega (arith, c.loop-i-test.false, c.width-i-end.ensures.width)))
