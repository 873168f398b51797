use Rattle.std.proofs.Common.{◌∙◌}
use Rattle.std.proofs.lemmas.Result.{IfOk-weaker}
use Rattle.explore_command.proofs.SurveyLemmas.{survey_text-counts}
use Rattle.explore_command.proofs.surveys.survey_of.Goals as goal

pub returns : goal.returns
returns g c =
    IfOk-weaker c.survey_text.result _ _
    (λ text is. is ∙ survey_text-counts c.args.table.now _ _ _ c.in_ok-concepts.ensures c.in_ok-members.ensures c.in_ok-accepted.ensures)
    c.survey_text.ensures
