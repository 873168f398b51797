use Rattle.std.proofs.Common.{◌∙◌, List, ap, sym}
use Rattle.fca_model.specs.Implications.{Rule}
use Rattle.direct_basis.specs.Direct.{one_pass}
use Rattle.direct_basis.proofs.DirectLemmas.{one_pass_closes}
use Rattle.direct_basis.proofs.passing.one_pass.Goals as goal

pub returns-clause-closure : goal.returns-clause-closure
returns-clause-closure c = λ K w e.
    c.pass_over.ensures ∙ ap (λ (J : List Rule). one_pass J c.args.x.now) (c.as_slice.ensures.members ∙ e)
    ∙ one_pass_closes K c.args.x.now (c.requires ∙ sym w)
