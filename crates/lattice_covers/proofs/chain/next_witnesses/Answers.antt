use Rattle.std.proofs.Common.{sym, subst, ◌∙◌}
use Rattle.fca_model.specs.Sets.{Set}
use Rattle.fca_model.specs.Context.{Context}
use Rattle.lectic_concepts.specs.Branches.{AreWitnesses}
use Rattle.lectic_concepts.proofs.WitnessLemmas.{seen_larger}
use Rattle.lattice_covers.proofs.chain.next_witnesses.Goals as goal

pub returns-in_ok-from_slice-in_default : goal.returns-in_ok-from_slice-in_default
returns-in_ok-from_slice-in_default g c =
    let K : Context = c.args.rows.now in
    let L : Set = c.args.link.now.intent in
    seen_larger K L c.args.a.now c.in_ok-from_slice-in_default.field-0.items c.requires.wide c.requires.larger
    (subst (AreWitnesses K L) (sym (c.in_ok-from_slice-in_default.ensures.items ∙ c.deref.ensures.value)) c.requires.link.witnesses)
