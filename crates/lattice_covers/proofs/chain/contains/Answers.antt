use Rattle.std.proofs.Common.{◌∙◌, sym}
use Rattle.fca_model.proofs.SetLemmas.{not_within_at}
use Rattle.lattice_covers.proofs.chain.contains.Goals as goal

pub returns-else-has : goal.returns-else-has
returns-else-has g c = c.if-has.false ∙ sym (not_within_at c.args.a.now c.args.row.now c.args.i c.requires.member
    (sym c.has.ensures ∙ c.if-has.false))
