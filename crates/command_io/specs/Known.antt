-- Implications that are known of a table beforehand. A file has them, and every row of the table respects them.
--
-- If the first row has the first attribute and lacks the second, the known file `X. .X` is refused, since row 1 breaks known 1.
use Rattle.std.specs.Prelude.{◌≡◌, ◌⊎◌, ⊤, ℕ, Option, None, Some, Err, List, []}
use Rattle.fca_model.specs.Tables.{Text, NamedContext}
use Rattle.fca_model.specs.Implications.{Rule}
use Rattle.fca_model.specs.declared.TheConstants.{FILE_BYTES}
use Rattle.fca_io.specs.Shelves.{Told, MayExceed}
use Rattle.explore_state.specs.Faults.{first_break}
use Rattle.expert_scripts.specs.Known.{known_form}
use Rattle.command_io.specs.Readings.{Reading, then, formed, file_read, MayRead}
use Rattle.command_io.specs.Readings.Reading.{Refused, Read}
use Rattle.command_io.specs.Forms.{table_read}
use Rattle.command_io.specs.Causes.{IfHeld, IsFileStop}
use Rattle.command_io.specs.declared.known.Start as read
use Rattle.command_io.specs.declared.stop.Origin.{Origin}
use Rattle.command_io.specs.declared.stop.Origin.TheVariants.{File, Known}
use Rattle.command_io.specs.declared.stop.Stop.{Stop}
use Rattle.command_io.specs.declared.stop.Stop.TheVariants.{TooLong, NoKnown, RowBreaks, ReadFault, Memory}

-- ---- what is read

-- the implications of a file, between sets of width n
abbrev pub implications_read : ℕ → Told → Reading (List Rule)
implications_read n told = file_read (λ bytes. formed (known_form bytes n)) told

-- these implications, unless a row was found that breaks one
abbrev pub unbroken : Option (ℕ × ℕ) → List Rule → Reading (List Rule)
unbroken None S = Read S
unbroken (Some found) S = Refused

-- these implications, if every row of the table respects them
abbrev pub if_respected : NamedContext → List Rule → Reading (List Rule)
if_respected table S = unbroken (first_break S 0 table.context.rows) S

-- the implications of a file, if every row of the table respects them
abbrev pub known_file_read : NamedContext → Told → Reading (List Rule)
known_file_read table told = then (implications_read table.context.width told) (if_respected table)

-- what is known of the table: the implications of the known file, or none without a known file
abbrev pub known_read : Option Text → NamedContext → (Text → Told) → Reading (List Rule)
known_read None table tells = Read []
known_read (Some file) table tells = known_file_read table (tells file)

-- what an exploration starts from: a table, and what is known of it
pub record Start : Type 0 where
  pub table : NamedContext
  pub known : List Rule

-- the start that a value of the program stands for
abbrev pub start_of : read.Start → Start
start_of s = record { table = s.table; known = s.known.members }

-- the table in a file, and what is known of it
abbrev pub start_read : Text → Option Text → (Text → Told) → Reading Start
start_read file known_file tells =
    then (table_read file (tells file)) (λ table.
    then (known_read known_file table tells) (λ S.
    Read (record { table = table; known = S })))

-- ---- why it is not

-- the stop for the first row of the table that breaks one of these implications; its message names the origin
abbrev pub IsBreakStop : List Rule → NamedContext → Origin → Stop → Type 0
IsBreakStop S table origin stop =
    (found : ℕ × ℕ) × (first_break S 0 table.context.rows ≡ Some found) × (stop ≡ RowBreaks origin found.0 found.1)

-- the stop for a file of implications between sets of width n: it could not be read, it is too long, or its bytes do not have the form
abbrev pub IsImplicationsStop : ℕ → Told → Type 0 → Stop → Type 0
IsImplicationsStop n told rose (ReadFault at) = (at ≡ Known) × rose
IsImplicationsStop n told rose (TooLong at) = (at ≡ Known) × MayExceed told FILE_BYTES
IsImplicationsStop n told rose (NoKnown fault) = IfHeld told (λ bytes. known_form bytes n ≡ Err fault)
IsImplicationsStop n told rose Memory = ⊤
IsImplicationsStop n told rose _ = ⊥

-- the stop for such a file, or for a row of the table that breaks one of its implications
abbrev pub IsKnownFileStop : NamedContext → Told → Type 0 → Stop → Type 0
IsKnownFileStop table told rose stop = IsImplicationsStop table.context.width told rose stop
    ⊎ ((S : List Rule) × MayRead (implications_read table.context.width told) S × IsBreakStop S table File stop)

-- the stop for the known file, if there is one
abbrev pub IsKnownStop : Option Text → NamedContext → (Text → Told) → (Text → Type 0) → Stop → Type 0
IsKnownStop None table tells rises stop = stop ≡ Memory
IsKnownStop (Some file) table tells rises stop = IsKnownFileStop table (tells file) (rises file) stop

-- the stop for the table in the file, or, if that was read, for the known file
abbrev pub IsStartStop : Text → Option Text → (Text → Told) → (Text → Type 0) → Stop → Type 0
IsStartStop file known_file tells rises stop = IsFileStop file (tells file) (rises file) File stop
    ⊎ ((table : NamedContext) × MayRead (table_read file (tells file)) table × IsKnownStop known_file table tells rises stop)
