use Rattle.std.proofs.Common.{◌≡◌, ◌∙◌, ◌++◌, length, ap}
use Rattle.std.proofs.lemmas.Result.{on_ok_weaker}
use Rattle.fca_model.specs.Context.{Context}
use Rattle.basis_report.proofs.SurveyLemmas.{six_pieces, same_lines}
use Rattle.basis_report.proofs.surveys.write_survey.Goals as goal

pub returns : goal.returns
returns c =
    let objects : c.len.result ≡ length c.args.table.now.context.rows = c.len.ensures
    ∙ ap (λ (K : Context). length K.rows) c.rows.ensures.rows in
    let attributes : c.width.result ≡ c.args.table.now.context.width = c.width.ensures.width
    ∙ ap (λ (K : Context). K.width) c.rows-2.ensures.rows in
    on_ok_weaker c.write_count_line-6.result (λ e. six_pieces _ _ _ _ _ _ _ _ _ _ _ _ _ c.in_ok-write_count_line.ensures
    c.in_ok-write_count_line-2.ensures c.in_ok-write_count_line-3.ensures
    c.in_ok-write_count_line-4.ensures c.in_ok-write_count_line-5.ensures e
    ∙ ap (λ z. c.args.draft.now ++ z) (same_lines _ _ _ _ _ _ c.args.concepts c.args.basis c.args.accepted objects attributes
    c.crosses.ensures)) c.write_count_line-6.ensures
