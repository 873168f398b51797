use Rattle.std.proofs.Common.{◌∙◌, sym}
use Rattle.context_scaling.proofs.ReadLemmas.{position_at}
use Rattle.context_scaling.proofs.read.attribute_at.Goals as goal

pub returns-in-Some-clause-place : goal.returns-in-Some-clause-place
returns-in-Some-clause-place c = position_at c.in_ok-name.name c.args.values.now.attributes c.in-Some.place
    (sym c.attribute.ensures ∙ c.in-Some.is)
