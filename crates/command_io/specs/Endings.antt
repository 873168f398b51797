-- The two parts of a call: its command comes to an output or a stop, and the call writes that. The status says what was written.
--
-- If a fault of out cuts off the text of `concepts F`, the outcome is `CutOff` and the status 4.
use Rattle.std.specs.Prelude.{◌≡◌, ◌⊎◌, ⊤, ℕ, List, [], ◌∷◌, Result, Ok, Err}
use Rattle.fca_model.specs.Tables.{Text}
use Rattle.fca_model.specs.Implications.{Rule}
use Rattle.command_io.specs.declared.output.Ending.{Ending}
use Rattle.command_io.specs.declared.output.Ending.TheVariants.{Finished, Open, Spent}
use Rattle.command_io.specs.declared.stop.Origin.{Origin}
use Rattle.command_io.specs.declared.stop.Origin.TheVariants.{Input}
use Rattle.command_io.specs.declared.stop.Stop.{Stop}
use Rattle.command_io.specs.declared.stop.Stop.TheVariants.{NoCommand, TooLong, NoCxt, NoCsv, BadValues, BadPlan, NoKnown}
use Rattle.command_io.specs.declared.stop.Stop.TheVariants.{RowBreaks, NoScript, UnknownAttribute, OtherAttributes, ReadFault, ListenerFault, Memory}

-- ---- what a command comes to

-- a text, and how it ends
pub record Output : Type 0 where
  pub text : Text
  pub ending : Ending

-- the output of a text that leaves no question open
abbrev pub finished : Text → Output
finished text = record { text = text; ending = Finished }

-- the ending of a text that leaves these questions open
abbrev pub ending_of : List Rule → Ending
ending_of [] = Finished
ending_of (question ∷ later) = Open

-- the stop refuses something that was read
abbrev pub IsRefusal : Stop → Type 0
IsRefusal NoCommand = ⊥
IsRefusal (ReadFault origin) = ⊥
IsRefusal ListenerFault = ⊥
IsRefusal Memory = ⊥
IsRefusal _ = ⊤

-- something that the command reads was refused, or could not be read
abbrev pub IsUnread : Stop → Type 0
IsUnread NoCommand = ⊥
IsUnread ListenerFault = ⊥
IsUnread Memory = ⊥
IsUnread _ = ⊤

-- the origin is a file
abbrev pub IsFile : Origin → Type 0
IsFile Input = ⊥
IsFile _ = ⊤

-- a file of the command was refused, or could not be read
abbrev pub IsOfFile : Stop → Type 0
IsOfFile (TooLong origin) = IsFile origin
IsOfFile (NoCxt origin fault) = IsFile origin
IsOfFile (NoCsv origin fault) = IsFile origin
IsOfFile (BadValues origin fault) = IsFile origin
IsOfFile (BadPlan origin fault) = IsFile origin
IsOfFile (NoKnown fault) = ⊤
IsOfFile (RowBreaks origin row rule) = IsFile origin
IsOfFile (OtherAttributes origin) = IsFile origin
IsOfFile (ReadFault origin) = IsFile origin
IsOfFile _ = ⊥

-- ---- what a call did

-- the whole text was written, a fault of out cut it off, or there was no text
pub data Outcome : Type 0 where
  Written : Output → Outcome
  CutOff : Output → Outcome
  Stopped : Stop → Outcome

-- what may become of an output or a stop
abbrev pub MayBecome : Result Output Stop → Outcome → Type 0
MayBecome (Ok output) outcome = (outcome ≡ Written output) ⊎ (outcome ≡ CutOff output)
MayBecome (Err stop) outcome = outcome ≡ Stopped stop

-- P holds of the output, if there is one
abbrev pub IfOutput : Outcome → (Output → Type 0) → Type 0
IfOutput (Written output) P = P output
IfOutput (CutOff output) P = P output
IfOutput (Stopped stop) P = ⊤

-- P holds of the output, if its whole text was written
abbrev pub IfWritten : Outcome → (Output → Type 0) → Type 0
IfWritten (Written output) P = P output
IfWritten (CutOff output) P = ⊤
IfWritten (Stopped stop) P = ⊤

-- P holds of the stop, if there is one
abbrev pub IfStopped : Outcome → (Stop → Type 0) → Type 0
IfStopped (Written output) P = ⊤
IfStopped (CutOff output) P = ⊤
IfStopped (Stopped stop) P = P stop

-- ---- the status of each outcome

abbrev pub ending_status : Ending → ℕ
ending_status Finished = 0
ending_status Open = 6
ending_status Spent = 8

abbrev pub stop_status : Stop → ℕ
stop_status NoCommand = 1
stop_status (TooLong origin) = 2
stop_status (NoCxt origin fault) = 2
stop_status (NoCsv origin fault) = 2
stop_status (BadValues origin fault) = 2
stop_status (BadPlan origin fault) = 2
stop_status (NoKnown fault) = 2
stop_status (RowBreaks origin row rule) = 2
stop_status (NoScript fault) = 2
stop_status UnknownAttribute = 2
stop_status (OtherAttributes origin) = 2
stop_status (ReadFault origin) = 3
stop_status Memory = 5
stop_status ListenerFault = 7

abbrev pub status_of : Outcome → ℕ
status_of (Written output) = ending_status output.ending
status_of (CutOff output) = 4
status_of (Stopped stop) = stop_status stop
