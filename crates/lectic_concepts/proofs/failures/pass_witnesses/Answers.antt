use Rattle.lectic_concepts.proofs.WitnessLemmas.{seen_larger}
use Rattle.lectic_concepts.proofs.failures.pass_witnesses.Goals as goal

pub returns : goal.returns
returns g c =
    seen_larger c.args.rows.now c.args.a.now c.args.larger.now c.args.witnesses.now c.requires.wide c.requires.larger
    c.requires.witnesses
