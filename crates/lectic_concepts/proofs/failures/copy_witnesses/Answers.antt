use Rattle.std.proofs.Common.{sym, subst}
use Rattle.fca_model.specs.Context.{Context}
use Rattle.lectic_concepts.specs.Branches.{AreWitnesses}
use Rattle.lectic_concepts.proofs.WitnessLemmas.{seen_among}
use Rattle.lectic_concepts.proofs.failures.copy_witnesses.Goals as goal

pub returns : goal.returns
returns g c =
    subst (AreWitnesses c.args.above.now c.args.larger.now) (sym c.in_ok-from_slice.ensures.items)
    (subst (λ (X : Context). AreWitnesses X c.args.larger.now c.args.witnesses.now) (sym c.requires.above)
    (seen_among c.args.rows.now c.args.a.now c.args.larger.now c.args.witnesses.now c.requires.wide c.requires.larger
    c.requires.witnesses))
