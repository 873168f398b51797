-- Tables in files, tables of values with plans for them, and scripts on the input.
use Rattle.std.specs.Prelude.{ℕ, Bool, cond, Option, List, nat_eq, codes}
use Rattle.std.specs.List.{ends_with}
use Rattle.fca_model.specs.Tables.{Text, NamedContext}
use Rattle.fca_io.specs.Shelves.{Told}
use Rattle.cxt_format.specs.Form.{cxt_form}
use Rattle.csv_context.specs.Form.{csv_form}
use Rattle.value_tables.specs.Values.{ValueTable}
use Rattle.value_tables.specs.Form.{values_form}
use Rattle.context_scaling.specs.Scaling.{PlanRecord}
use Rattle.context_scaling.specs.PlanForm.{plan_form}
use Rattle.expert_scripts.specs.Scripts.{ScriptContent, script_form}
use Rattle.command_io.specs.Readings.{Reading, formed, file_read, input_read}

-- the name of a file in the CSV form
abbrev pub is_csv : Text → Bool
is_csv name = ends_with nat_eq name (codes ".csv")

-- bytes in the form that the file's name says: CSV, or else the Burmeister form
abbrev pub table_formed : Text → Text → Reading NamedContext
table_formed name bytes = cond (is_csv name) (formed (csv_form bytes)) (formed (cxt_form bytes))

-- the table in the file of the name, of which this is told
abbrev pub table_read : Text → Told → Reading NamedContext
table_read name told = file_read (table_formed name) told

-- the table of values in a file of which this is told
abbrev pub values_read : Told → Reading ValueTable
values_read told = file_read (λ bytes. formed (values_form bytes)) told

-- the plan for the table of values in such a file
abbrev pub plan_read : ValueTable → Told → Reading (List PlanRecord)
plan_read t told = file_read (λ bytes. formed (plan_form t bytes)) told

-- what the script on the input says, whose rows and patterns have width n
abbrev pub script_read : ℕ → Option Text → Reading ScriptContent
script_read n input = input_read (λ bytes. formed (script_form bytes n)) input
