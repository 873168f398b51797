use Rattle.std.proofs.Common.{◌∙◌, ap}
use Rattle.std.proofs.lemmas.Result.{IfOk-weaker}
use Rattle.explore_command.specs.Surveyed.{surveyed_text}
use Rattle.explore_command.proofs.surveys.survey.Goals as goal

pub returns : goal.returns
returns g c = IfOk-weaker c.survey_of.result _ _ (λ text is. is ∙ ap surveyed_text c.in_ok-table.ensures) c.survey_of.ensures
