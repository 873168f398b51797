-- What each command writes.
use Rattle.std.specs.Prelude.{Option, Some, None}
use Rattle.fca_model.specs.Tables.{Text}
use Rattle.fca_io.specs.Shelves.{Told}
use Rattle.context_scaling.specs.Scaling.{scaled}
use Rattle.fca_command.specs.Commands.{report_file}
use Rattle.context_table.specs.Recipes.{recipe_table}
use Rattle.context_table.specs.declared.recipe.Recipe.{Recipe}
use Rattle.fca_command.specs.declared.command.Command.{Command}
use Rattle.fca_command.specs.declared.command.Command.TheVariants.{Scale, Replay, Make, Survey}
use Rattle.command_io.specs.Readings.{Reading, then}
use Rattle.command_io.specs.Readings.Reading.{Untold, Read}
use Rattle.command_io.specs.Forms.{values_read, plan_read}
use Rattle.command_io.specs.Endings.{Output, finished}
use Rattle.cxt_format.specs.Written.{cxt_text}
use Rattle.explore_command.specs.Surveyed.{surveyed_text}
use Rattle.replay_command.specs.Replayed.{replay_output}
use Rattle.fca_run.specs.Reports.{report_output}

-- ---- tables of values

-- what `scale` writes: the table that the plan in one file makes of the values in the other, in the Burmeister form
abbrev pub scale_output : Text → Text → (Text → Told) → Reading Output
scale_output values plan tells =
    then (values_read (tells values)) (λ t.
    then (plan_read t (tells plan)) (λ p.
    Read (finished (cxt_text (scaled t p)))))

-- ---- tables that are made

-- the table of a recipe, in the Burmeister form
abbrev pub make_output : Recipe → Output
make_output recipe = finished (cxt_text (recipe_table recipe))

-- what is counted of it and of an exploration by its oracles
abbrev pub survey_output : Recipe → Output
survey_output recipe = finished (surveyed_text (recipe_table recipe))

-- ---- all commands

-- What a command that reports on no table writes. `explore` and `serve` write what experts did together, and the files do not say that
abbrev pub other_output : Command → (Text → Told) → Option Text → Reading Output
other_output (Scale values plan) tells input = scale_output values plan tells
other_output (Replay file known) tells input = replay_output file known tells input
other_output (Make s o m d) tells input = Read (make_output (record { seed = s; objects = o; attributes = m; density = d }))
other_output (Survey s o m d experts) tells input = Read (survey_output (record { seed = s; objects = o; attributes = m; density = d }))
other_output _ tells input = Untold

-- what the command writes, by the file that it reports on, if there is one
abbrev pub output_by : Option Text → Command → (Text → Told) → Option Text → Reading Output
output_by (Some file) command tells input = report_output command file tells
output_by None command tells input = other_output command tells input

-- what the command writes, if the files and the input hold this
abbrev pub command_output : Command → (Text → Told) → Option Text → Reading Output
command_output command tells input = output_by (report_file command) command tells input
