-- What `survey` writes of a table that is made. The oracles of the table accept as many implications as its basis has, whatever the order
-- of their answers.
use Rattle.std.specs.Prelude.{length}
use Rattle.fca_model.specs.Tables.{Text, NamedContext}
use Rattle.fca_model.specs.Pseudo.{intents, basis}
use Rattle.basis_report.specs.Surveys.{survey_text}

-- what is counted of the table and of an exploration by its oracles
abbrev pub surveyed_text : NamedContext → Text
surveyed_text t = survey_text t (length (intents t.context)) (length (basis t.context)) (length (basis t.context))
