use Rattle.std.proofs.Common.{◌∙◌, ap, ap₂, sym, subst}
use Rattle.fca_model.specs.Context.{Context}
use Rattle.answer_check.specs.Verdicts.{IsOnConfirmation, confirm_reply_for, confirm_verdict}
use Rattle.answer_check.proofs.VerdictLemmas.{confirm_reply-verdict, IsOnConfirmation-verdict}
use Rattle.answer_check.proofs.check_confirm.Goals as goal

pub returns-clause-reply : goal.returns-clause-reply
returns-clause-reply c = λ s rows accepted.
    confirm_reply-verdict s c.args.question.now
    ∙ ap (confirm_reply_for s) (ap₂ (λ (K : Context) J. confirm_verdict K.rows J c.args.question.now) rows accepted
    ∙ sym c.judge_confirmation.ensures)

pub returns-clause-case : goal.returns-clause-case
returns-clause-case c = subst (IsOnConfirmation c.args.rows.now.rows c.args.accepted.now.members) (sym c.judge_confirmation.ensures)
    (IsOnConfirmation-verdict c.args.rows.now.rows c.args.accepted.now.members c.args.question.now)
