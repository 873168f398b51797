-- Why a table, a table of values, a plan or a script could not be read, and which stop that is. A fault comes only if the count of faults
-- of this file, or of the input, rose. A form is refused only if the bytes are no more than a file may have.
use Rattle.std.specs.Prelude.{◌≡◌, ⊤, ℕ, true, false, Option, None, Some, Result, Err, length, ◌<◌, ◌≤◌}
use Rattle.fca_model.specs.Tables.{Text}
use Rattle.fca_model.specs.declared.TheConstants.{FILE_BYTES}
use Rattle.fca_io.specs.Shelves.{Told, MayExceed}
use Rattle.fca_io.specs.declared.outside.Taken.{Taken}
use Rattle.fca_io.specs.declared.outside.Taken.TheVariants as taken
use Rattle.cxt_format.specs.Form.{cxt_form}
use Rattle.csv_context.specs.Form.{csv_form}
use Rattle.value_tables.specs.Values.{ValueTable}
use Rattle.value_tables.specs.Form.{values_form}
use Rattle.context_scaling.specs.PlanForm.{plan_form}
use Rattle.expert_scripts.specs.Scripts.{script_form}
use Rattle.command_io.specs.Forms.{is_csv}
use Rattle.command_io.specs.declared.stop.Origin.{Origin}
use Rattle.command_io.specs.declared.stop.Origin.TheVariants.{Input}
use Rattle.command_io.specs.declared.stop.Stop.{Stop}
use Rattle.command_io.specs.declared.stop.Stop.TheVariants.{TooLong, NoCxt, NoCsv, BadValues, BadPlan, NoScript, ReadFault, ListenerFault, Memory}

-- P holds unless a file or the input could not be read
abbrev pub UnlessReadFault : {X : Type 0} → Result X Stop → Type 0 → Type 0
UnlessReadFault (Err (ReadFault origin)) P = ⊤
UnlessReadFault _ P = P

-- P holds unless the listener failed
abbrev pub UnlessListenerFault : {X : Type 0} → Result X Stop → Type 0 → Type 0
UnlessListenerFault (Err ListenerFault) P = ⊤
UnlessListenerFault _ P = P

-- the stop for bytes of this origin that could not be read
abbrev pub taken_stop : Taken → Origin → Stop
taken_stop taken.Failed origin = ReadFault origin
taken_stop taken.Long origin = TooLong origin
taken_stop taken.Memory origin = Memory

-- the stop for bytes of the file of this name that do not have its form
abbrev pub IsFormStop : Text → Origin → Text → Stop → Type 0
IsFormStop name origin bytes (NoCxt at fault) = (at ≡ origin) × (is_csv name ≡ false) × (cxt_form bytes ≡ Err fault)
IsFormStop name origin bytes (NoCsv at fault) = (at ≡ origin) × (is_csv name ≡ true) × (csv_form bytes ≡ Err fault)
IsFormStop name origin bytes Memory = ⊤
IsFormStop name origin bytes _ = ⊥

-- if the shelf tells what a file holds: that is no longer than a file may be, and P holds of it
abbrev pub IfHeld : Told → (Text → Type 0) → Type 0
IfHeld None P = ⊤
IfHeld (Some None) P = ⊥
IfHeld (Some (Some bytes)) P = (length bytes ≤ FILE_BYTES) × P bytes

-- the stop for a file that was not fetched: it could not be read, and a count of faults rose; it is too long; or memory ran out
abbrev pub IsFetchStop : Told → Type 0 → Origin → Stop → Type 0
IsFetchStop told rose origin (ReadFault at) = (at ≡ origin) × rose
IsFetchStop told rose origin (TooLong at) = (at ≡ origin) × MayExceed told FILE_BYTES
IsFetchStop told rose origin Memory = ⊤
IsFetchStop told rose origin _ = ⊥

-- The stop for the file of this name: it could not be read, and a count of faults rose; it is too long; or it is not too long, and its
-- bytes do not have its form
abbrev pub IsFileStop : Text → Told → Type 0 → Origin → Stop → Type 0
IsFileStop name told rose origin (ReadFault at) = (at ≡ origin) × rose
IsFileStop name told rose origin (TooLong at) = (at ≡ origin) × MayExceed told FILE_BYTES
IsFileStop name told rose origin (NoCxt at fault) = (at ≡ origin) × (is_csv name ≡ false)
    × IfHeld told (λ bytes. cxt_form bytes ≡ Err fault)
IsFileStop name told rose origin (NoCsv at fault) = (at ≡ origin) × (is_csv name ≡ true) × IfHeld told (λ bytes. csv_form bytes ≡ Err fault)
IsFileStop name told rose origin Memory = ⊤
IsFileStop name told rose origin _ = ⊥

-- the stop for a file of values
abbrev pub IsValuesStop : Told → Type 0 → Origin → Stop → Type 0
IsValuesStop told rose origin (ReadFault at) = (at ≡ origin) × rose
IsValuesStop told rose origin (TooLong at) = (at ≡ origin) × MayExceed told FILE_BYTES
IsValuesStop told rose origin (BadValues at fault) = (at ≡ origin) × IfHeld told (λ bytes. values_form bytes ≡ Err fault)
IsValuesStop told rose origin Memory = ⊤
IsValuesStop told rose origin _ = ⊥

-- the stop for a file with a plan for the table of values
abbrev pub IsPlanStop : ValueTable → Told → Type 0 → Origin → Stop → Type 0
IsPlanStop t told rose origin (ReadFault at) = (at ≡ origin) × rose
IsPlanStop t told rose origin (TooLong at) = (at ≡ origin) × MayExceed told FILE_BYTES
IsPlanStop t told rose origin (BadPlan at fault) = (at ≡ origin) × IfHeld told (λ bytes. plan_form t bytes ≡ Err fault)
IsPlanStop t told rose origin Memory = ⊤
IsPlanStop t told rose origin _ = ⊥

-- if the input tells what is left, it is more than the limit
abbrev pub MayBeLonger : Option Text → ℕ → Type 0
MayBeLonger None limit = ⊤
MayBeLonger (Some bytes) limit = limit < length bytes

-- if the input tells what is left: that is no longer than a file may be, and P holds of it
abbrev pub IfLeft : Option Text → (Text → Type 0) → Type 0
IfLeft None P = ⊤
IfLeft (Some bytes) P = (length bytes ≤ FILE_BYTES) × P bytes

-- the stop for a script on this input, of a table of width n
abbrev pub IsScriptStop : ℕ → Option Text → Type 0 → Stop → Type 0
IsScriptStop n input rose (ReadFault at) = (at ≡ Input) × rose
IsScriptStop n input rose (TooLong at) = (at ≡ Input) × MayBeLonger input FILE_BYTES
IsScriptStop n input rose (NoScript fault) = IfLeft input (λ bytes. script_form bytes n ≡ Err fault)
IsScriptStop n input rose Memory = ⊤
IsScriptStop n input rose _ = ⊥
