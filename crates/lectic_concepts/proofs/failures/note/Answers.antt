use Rattle.std.proofs.Common.{◌≡◌, true, false, get_or, sym, subst}
use Rattle.fca_model.specs.Sets.{Set}
use Rattle.lectic_concepts.specs.Branches.{AreWitnesses}
use Rattle.lectic_concepts.proofs.WitnessLemmas.{seen_set}
use Rattle.lectic_concepts.proofs.failures.note.Goals as goal

pub returns-in-Some : goal.returns-in-Some
returns-in-Some g c =
    subst (AreWitnesses c.args.rows.now c.args.a.now) (sym c.put.ensures)
    (seen_set c.args.rows.now c.args.a.now c.args.witnesses.now.items c.args.i c.in-Some.member c.requires.witnesses
    (subst (λ (X : Set). get_or X c.in-Some.member false ≡ true) c.requires.closed c.in-Some.ensures.member))
