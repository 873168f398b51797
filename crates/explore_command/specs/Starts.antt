-- What `explore` reads: a table, what is known of it, and for each expert a table with the same attributes in the same order. If experts
-- are named, each has the word of its file as its name, if that is a name.
--
-- Of the files `A` and, with a line break in its name, a second, expert 1 alone has a name, which is A.
use Rattle.std.specs.Prelude.{◌≡◌, ℕ, ◌+◌, ◌⊎◌, Bool, true, false, ◌&&◌, cond, Option, List, [], ◌∷◌, bytes_eq}
use Rattle.std.specs.Str.{is_utf8}
use Rattle.fca_model.specs.declared.TheConstants.{MAX_EXPERTS}
use Rattle.fca_model.specs.Implications.{Rule}
use Rattle.fca_model.specs.Invariant.{rows_respect}
use Rattle.fca_model.specs.Exploration.{Settings, RowName}
use Rattle.fca_model.specs.Tables.{Text, NamedContext}
use Rattle.fca_io.specs.Shelves.{Told}
use Rattle.expert_wire.specs.Patterns.{is_name}
use Rattle.expert_scripts.specs.Transcripts.{SettingsCanBeWritten}
use Rattle.command_io.specs.Readings.{Reading, then, MayRead}
use Rattle.command_io.specs.Readings.Reading.{Refused, Read}
use Rattle.command_io.specs.Forms.{table_read}
use Rattle.command_io.specs.Known.{Start, start_read, IsStartStop}
use Rattle.command_io.specs.Causes.{IsFileStop}
use Rattle.command_io.specs.declared.stop.Origin.{Origin}
use Rattle.command_io.specs.declared.stop.Origin.TheVariants.{Later}
use Rattle.command_io.specs.declared.stop.Stop.{Stop}
use Rattle.command_io.specs.declared.stop.Stop.TheVariants.{OtherAttributes, Memory}

-- a table, the settings of its exploration, and the tables of the experts
pub record ExploreStart : Type 0 where
  pub table : NamedContext
  pub settings : Settings
  pub expert_tables : List NamedContext

-- settings that a text can spell, whose known implications the table's rows respect, and under which all experts may hold one question
pub record MayOpen (table : NamedContext) (s : Settings) : Type 0 where
  pub writable : SettingsCanBeWritten table.context.width s
  pub respected : rows_respect s.known table.context ≡ true
  pub free : s.holders ≡ MAX_EXPERTS

-- ---- names of experts

-- the word of a file that is a name
abbrev pub is_named : Text → Bool
is_named file = is_utf8 file && is_name file

-- the experts from number e on, of whom these are the files, with their names
abbrev pub names_from : ℕ → List Text → List (ℕ × RowName)
names_from e [] = []
names_from e (file ∷ files) = cond (is_named file) ((e, file) ∷ names_from (e + 1) files) (names_from (e + 1) files)

-- the names of all experts by their files, or none if experts are not named
abbrev pub names_by_files : Bool → List Text → List (ℕ × RowName)
names_by_files wants_names files = cond wants_names (names_from 1 files) []

-- the settings with these known implications, of experts who have these files
abbrev pub settings_by : List Rule → Bool → List Text → Settings
settings_by S wants_names files = record { known = S; holders = MAX_EXPERTS; expert_names = names_by_files wants_names files }

-- ---- the tables of experts

abbrev pub same_names : List Text → List Text → Bool
same_names [] [] = true
same_names [] (name ∷ names) = false
same_names (name ∷ names) [] = false
same_names (name ∷ names) (other ∷ others) = bytes_eq name other && same_names names others

-- an expert's table, if its attributes are those of the table
abbrev pub if_agreeing : NamedContext → NamedContext → Reading NamedContext
if_agreeing table D = cond (same_names D.attributes table.attributes) (Read D) Refused

-- the table of an expert in the file
abbrev pub expert_read : NamedContext → Text → (Text → Told) → Reading NamedContext
expert_read table file tells = then (table_read file (tells file)) (if_agreeing table)

-- the tables of the experts in the files, in their order
abbrev pub experts_read : NamedContext → List Text → (Text → Told) → Reading (List NamedContext)
experts_read table [] tells = Read []
experts_read table (file ∷ rest) tells =
    then (expert_read table file tells) (λ D. then (experts_read table rest tells) (λ experts. Read (D ∷ experts)))

-- the table in the first file, what is known of it, and the tables of the experts in the others
abbrev pub explore_read : Text → Option Text → Bool → List Text → (Text → Told) → Reading ExploreStart
explore_read file known_file wants_names files tells =
    then (start_read file known_file tells) (λ start.
    then (experts_read start.table files tells) (λ tables.
    Read (record { table = start.table; settings = settings_by start.known wants_names files; expert_tables = tables })))

-- ---- why they are not read

-- the stop for the file of an expert, or, if its table was read, that it has other attributes
abbrev pub IsExpertStop : NamedContext → Text → (Text → Told) → (Text → Type 0) → Origin → Stop → Type 0
IsExpertStop table file tells rises origin stop = IsFileStop file (tells file) (rises file) origin stop
    ⊎ ((stop ≡ OtherAttributes origin) × (D : NamedContext) × MayRead (table_read file (tells file)) D × (if_agreeing table D ≡ Refused))

-- The stop for the files of experts, from this place on: for the first of them, or, if that was read, for a later one; or memory ran out
abbrev pub IsExpertsStop : NamedContext → ℕ → List Text → (Text → Told) → (Text → Type 0) → Stop → Type 0
IsExpertsStop table place [] tells rises stop = stop ≡ Memory
IsExpertsStop table place (file ∷ later) tells rises stop = IsExpertStop table file tells rises (Later place) stop
    ⊎ ((D : NamedContext) × MayRead (expert_read table file tells) D × IsExpertsStop table (place + 1) later tells rises stop)

-- the stop for the first file or the known file, or, if both were read, for the files of the experts
abbrev pub IsExploreStop : Text → Option Text → List Text → (Text → Told) → (Text → Type 0) → Stop → Type 0
IsExploreStop file known_file files tells rises stop = IsStartStop file known_file tells rises stop
    ⊎ ((start : Start) × MayRead (start_read file known_file tells) start × IsExpertsStop start.table 0 files tells rises stop)
