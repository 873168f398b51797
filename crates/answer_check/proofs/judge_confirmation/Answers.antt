use Rattle.std.proofs.Common.{◌∙◌, ap, sym, position}
use Rattle.fca_model.specs.Sets.{same}
use Rattle.answer_check.specs.Verdicts.{confirm_unrefuted, confirm_unheard}
use Rattle.answer_check.proofs.judge_confirmation.Goals as goal

pub returns-in-None : goal.returns-in-None
returns-in-None c = sym (
    ap (confirm_unrefuted c.args.accepted.now.members c.args.question.now) (sym c.refuter.ensures ∙ c.in_default.is)
    ∙ ap confirm_unheard (ap (position (λ i. same i.premise c.args.question.now.premise)) (sym c.as_slice.ensures.members)
    ∙ sym c.first_with_premise.ensures ∙ c.in-None.is))
