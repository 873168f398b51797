use Rattle.std.proofs.Common.{◌∙◌, ap, ap₂, sym, subst}
use Rattle.fca_model.specs.Context.{Context}
use Rattle.answer_check.specs.Verdicts.{IsOnRow, row_reply_for, row_verdict}
use Rattle.answer_check.proofs.VerdictLemmas.{row_reply-verdict, IsOnRow-verdict}
use Rattle.answer_check.proofs.check_row.Goals as goal

pub returns-clause-reply : goal.returns-clause-reply
returns-clause-reply c = λ s rows rules.
    row_reply-verdict s c.args.question.now c.args.row.now
    ∙ ap (row_reply_for s) (ap₂ (λ (K : Context) J. row_verdict K.rows J c.args.question.now c.args.row.now) rows rules
    ∙ sym c.judge_row.ensures)

pub returns-clause-case : goal.returns-clause-case
returns-clause-case c = subst (IsOnRow c.args.rows.now.rows c.args.rules.now.members) (sym c.judge_row.ensures)
    (IsOnRow-verdict c.args.rows.now.rows c.args.rules.now.members c.args.question.now c.args.row.now)
