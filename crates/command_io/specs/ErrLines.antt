-- The lines on err. Each begins with `fca: ` and says why a call wrote no text, or not all of it. It names the file at fault, or `input`,
-- and the place in it, if there is one.
--
-- A row that is too short, in line 9 of the file F: `fca: F: line 9: bad row`.
use Rattle.std.specs.Prelude.{ℕ, decimal, codes, Option, None, Some, List, [], ◌∷◌, slice_get, unwrap_or}
use Rattle.std.specs.List.{concat}
use Rattle.fca_model.specs.Tables.{Text}
use Rattle.fca_model.specs.declared.TheConstants.{NO_MEMORY}
use Rattle.fca_io.specs.declared.outside.TheConstants.{READ_FAULT, TOO_LONG, WRITE_FAULT}
use Rattle.text_pieces.specs.Faults.{description_text}
use Rattle.text_pieces.specs.declared.faults.TheConstants.{UNKNOWN_ATTRIBUTE}
use Rattle.text_pieces.specs.declared.faults.FaultPlace.{FaultPlace}
use Rattle.text_pieces.specs.declared.faults.FaultPlace.TheVariants.{Whole}
use Rattle.cxt_format.specs.Faults as cxt
use Rattle.csv_context.specs.Faults as csv
use Rattle.expert_scripts.specs.KnownFaults as rules
use Rattle.expert_scripts.specs.Faults as script
use Rattle.expert_wire.specs.Texts.{line_end, ordinal}
use Rattle.command_io.specs.declared.err_line.TheConstants.{NO_SUCH_COMMAND, BAD_VALUES, BAD_PLAN, ATTRIBUTES_DIFFER, LISTENER_FAULT}
use Rattle.command_io.specs.declared.err_line.TheConstants.{TURNS_SPENT, INPUT}
use Rattle.command_io.specs.declared.output.Ending.{Ending}
use Rattle.command_io.specs.declared.output.Ending.TheVariants.{Finished, Open, Spent}
use Rattle.command_io.specs.Endings.{Outcome}
use Rattle.command_io.specs.Endings.Outcome.{Written, CutOff, Stopped}
use Rattle.command_io.specs.declared.stop.Origin.{Origin}
use Rattle.command_io.specs.declared.stop.Origin.TheVariants.{File, Known, Later, Input}
use Rattle.command_io.specs.declared.stop.Stop.{Stop}
use Rattle.command_io.specs.declared.stop.Stop.TheVariants.{NoCommand, TooLong, NoCxt, NoCsv, BadValues, BadPlan, NoKnown}
use Rattle.command_io.specs.declared.stop.Stop.TheVariants.{RowBreaks, NoScript, UnknownAttribute, OtherAttributes, ReadFault, ListenerFault, Memory}

-- ---- the form of a line

-- a line of these words alone
abbrev pub plain_line : Text → Text
plain_line words = concat (codes "fca: " ∷ words ∷ line_end ∷ [])

-- the line of a fault in what has this name
abbrev pub placed_line : Text → FaultPlace × Text → Text
placed_line name description = concat (codes "fca: " ∷ name ∷ codes ": " ∷ description_text description ∷ line_end ∷ [])

-- a line of these words after a name and a place of this kind with its number
abbrev pub numbered_line : Text → Text → ℕ → Text → Text
numbered_line name kind number words = concat (codes "fca: " ∷ name ∷ codes ": " ∷ kind ∷ decimal number ∷ codes ": " ∷ words ∷ line_end ∷ [])

-- the line of a row that breaks a known implication, by the places of both
abbrev pub breaks_line : Text → ℕ → ℕ → Text
breaks_line name row rule = concat (codes "fca: " ∷ name ∷ codes ": row " ∷ ordinal row ∷ codes " breaks known " ∷ ordinal rule ∷ line_end ∷ [])

-- ---- the line of a stop

-- the name of what is at fault; a file at fault has the name `file`
abbrev pub name_of : Text → Origin → Text
name_of file File = file
name_of file Known = file
name_of file (Later place) = file
name_of file Input = INPUT.now

-- the line of a stop; a file at fault has the name `file`
abbrev pub stop_line : Text → Stop → Text
stop_line file NoCommand = plain_line NO_SUCH_COMMAND.now
stop_line file (TooLong origin) = placed_line (name_of file origin) (Whole, TOO_LONG.now)
stop_line file (NoCxt origin fault) = placed_line (name_of file origin) (cxt.description fault)
stop_line file (NoCsv origin fault) = placed_line (name_of file origin) (csv.description fault)
stop_line file (BadValues origin fault) = placed_line (name_of file origin) (Whole, BAD_VALUES.now)
stop_line file (BadPlan origin fault) = placed_line (name_of file origin) (Whole, BAD_PLAN.now)
stop_line file (NoKnown fault) = placed_line (name_of file Known) (rules.description fault)
stop_line file (RowBreaks origin row rule) = breaks_line (name_of file origin) row rule
stop_line file (NoScript fault) = placed_line INPUT.now (script.description fault)
stop_line file UnknownAttribute = plain_line UNKNOWN_ATTRIBUTE.now
stop_line file (OtherAttributes origin) = placed_line (name_of file origin) (Whole, ATTRIBUTES_DIFFER.now)
stop_line file (ReadFault origin) = placed_line (name_of file origin) (Whole, READ_FAULT.now)
stop_line file ListenerFault = plain_line LISTENER_FAULT.now
stop_line file Memory = plain_line NO_MEMORY.now

-- the line of a fault of out
abbrev pub write_fault_line : Text
write_fault_line = plain_line WRITE_FAULT.now

-- the line of turns that are spent
abbrev pub turns_spent_line : Text
turns_spent_line = plain_line TURNS_SPENT.now

-- what is at fault; if a stop names nothing, it is the first file
abbrev pub stop_origin : Stop → Origin
stop_origin (TooLong origin) = origin
stop_origin (NoCxt origin fault) = origin
stop_origin (NoCsv origin fault) = origin
stop_origin (BadValues origin fault) = origin
stop_origin (BadPlan origin fault) = origin
stop_origin (NoKnown fault) = Known
stop_origin (RowBreaks origin row rule) = origin
stop_origin (OtherAttributes origin) = origin
stop_origin (ReadFault origin) = origin
stop_origin _ = File

-- the name of the file of this origin, of the first file, the known file and the later ones
abbrev pub file_from : Text → Option Text → List Text → Origin → Text
file_from file known later Known = unwrap_or known file
file_from file known later (Later place) = unwrap_or (slice_get later place) file
file_from file known later _ = file

-- the name of the file at fault
abbrev pub file_at_fault : Text → Option Text → List Text → Stop → Text
file_at_fault file known later stop = file_from file known later (stop_origin stop)

-- ---- the line of an outcome

-- the line of a text that was written whole: only if turns are spent
abbrev pub ending_line : Ending → Option Text
ending_line Finished = None
ending_line Open = None
ending_line Spent = Some turns_spent_line

-- the line that a call writes, if it writes one; the function gives the name of the file at fault
abbrev pub line_of : (Stop → Text) → Outcome → Option Text
line_of file (Written output) = ending_line output.ending
line_of file (CutOff output) = Some write_fault_line
line_of file (Stopped stop) = Some (stop_line (file stop) stop)
