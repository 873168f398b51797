-- Why each command stops, and which file is at fault.
use Rattle.std.specs.Prelude.{◌≡◌, ◌⊎◌, ℕ, Option, None, Some, []}
use Rattle.fca_model.specs.Tables.{Text, NamedContext}
use Rattle.fca_io.specs.Shelves.{Told}
use Rattle.value_tables.specs.Values.{ValueTable}
use Rattle.fca_command.specs.Commands.{files_of, first_file_of, known_file_of, later_files_of}
use Rattle.fca_command.specs.declared.command.Command.{Command}
use Rattle.command_io.specs.Readings.{MayRead}
use Rattle.command_io.specs.Readings.Reading.{Refused}
use Rattle.command_io.specs.Forms.{table_read, values_read}
use Rattle.command_io.specs.Causes.{IsFileStop, IsValuesStop, IsPlanStop}
use Rattle.command_io.specs.ErrLines.{file_at_fault}
use Rattle.command_io.specs.declared.stop.Origin.TheVariants.{File, Later}
use Rattle.command_io.specs.declared.stop.Stop.{Stop}
use Rattle.command_io.specs.declared.stop.Stop.TheVariants.{UnknownAttribute}
use Rattle.fca_run.specs.Reports.{table_report}

-- the stop for the file of values, or, if that was read, for the plan
abbrev pub IsScaleStop : Text → Text → (Text → Told) → (Text → Type 0) → Stop → Type 0
IsScaleStop values plan tells rises stop = IsValuesStop (tells values) (rises values) File stop
    ⊎ ((t : ValueTable) × MayRead (values_read (tells values)) t × IsPlanStop t (tells plan) (rises plan) (Later 0) stop)

-- The stop for a report on the table in the file: that of the file, or, if it was read, that a word names what is no attribute of the
-- table, so that the command has nothing to report
abbrev pub IsReportStop : Command → Text → Told → Type 0 → Stop → Type 0
IsReportStop command file told rose stop = IsFileStop file told rose File stop
    ⊎ ((stop ≡ UnknownAttribute) × ((table : NamedContext) × MayRead (table_read file told) table × (table_report command table ≡ Refused)))

-- the name of the file at fault if the command stops, or an empty name without a command
abbrev pub command_file_at_fault : Option Command → Stop → Text
command_file_at_fault None stop = []
command_file_at_fault (Some command) stop = file_at_fault (first_file_of (files_of command)) (known_file_of command)
    (later_files_of command) stop
