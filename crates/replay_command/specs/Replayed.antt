-- What `replay` records: the exploration of a table by the events of a script, under the script's settings or beside what a file says is
-- known.
--
-- Over a and b, of which a file says that a implies b, the script `draw 1` records one draw, whose reply asks {} -> {a, b}. The script
-- `exploration 2` is refused there, since it may set something.
use Rattle.std.specs.Prelude.{◌≡◌, ◌⊎◌, ℕ, Option, Some, None, List}
use Rattle.fca_model.specs.Tables.{Text, NamedContext}
use Rattle.fca_model.specs.declared.TheConstants.{MAX_EXPERTS}
use Rattle.fca_model.specs.Implications.{Rule}
use Rattle.fca_model.specs.Exploration.{Settings, SetEvent, plain, journal_of}
use Rattle.fca_io.specs.Shelves.{Told}
use Rattle.explore_state.specs.History.{Opening, opening_state}
use Rattle.explore_state.specs.Faults.{first_break}
use Rattle.exploration_terms.specs.Settings.{settings_of}
use Rattle.exploration_terms.specs.declared.settings.Settings as told
use Rattle.expert_scripts.specs.Scripts.{ScriptContent}
use Rattle.expert_scripts.specs.Transcripts.{SettingsCanBeWritten}
use Rattle.expert_scripts.specs.declared.fault.ScriptFault.TheVariants.{BadLine}
use Rattle.basis_report.specs.Explorations.{explore_text, Spells}
use Rattle.command_io.specs.Readings.{Reading, then, MayRead}
use Rattle.command_io.specs.Readings.Reading.{Refused, Read}
use Rattle.command_io.specs.Forms.{table_read, script_read}
use Rattle.command_io.specs.Causes.{IsScriptStop}
use Rattle.command_io.specs.Known.{Start, if_respected, start_read, IsBreakStop, IsStartStop}
use Rattle.command_io.specs.Endings.{Output, ending_of}
use Rattle.command_io.specs.Explorations.{Exploration, opening_of, last_open, IsExplored}
use Rattle.command_io.specs.declared.stop.Origin.TheVariants.{Input}
use Rattle.command_io.specs.declared.stop.Stop.{Stop}
use Rattle.command_io.specs.declared.stop.Stop.TheVariants.{NoScript}

-- ---- what is read

-- the script, if it has no line `exploration 2`
abbrev pub of_first_version : Option ℕ → ScriptContent → Reading ScriptContent
of_first_version None said = Read said
of_first_version (Some line) said = Refused

-- The settings of a replay with this known file, from which S was read, and this script. With a known file the script is of the first
-- version, and S is all that is set. Without one they are the script's, if every row of the table respects the implications in them.
abbrev pub settings_read : Option Text → List Rule → NamedContext → ScriptContent → Reading Settings
settings_read None S table said = then (if_respected table said.settings.known) (λ _. Read said.settings)
settings_read (Some file) S table said = then (of_first_version said.second said) (λ _. Read (record plain { known = S }))

-- An exploration of the table may be opened with these settings, and a text can spell them: what is known has the table's width, and every
-- row respects it
pub record MayOpenReplay (table : NamedContext) (s : told.Settings) : Type 0 where
  pub width : s.known.width ≡ table.context.width
  pub respected : first_break s.known.members 0 table.context.rows ≡ None
  pub writable : SettingsCanBeWritten table.context.width (settings_of s)

-- the opening of a replay, for as many experts as there may be
abbrev pub replay_opening : NamedContext → Settings → Opening
replay_opening table settings = opening_of table MAX_EXPERTS settings

-- the exploration of the table under the settings by the events
abbrev pub exploration_by : NamedContext → Settings → List SetEvent → Exploration
exploration_by table settings events =
    record { opening = replay_opening table settings; journal = journal_of (opening_state (replay_opening table settings)) events }

-- the exploration by the script on the input, from this start, with this known file, if there is one
abbrev pub exploration_read : Option Text → Option Text → Start → Reading Exploration
exploration_read known_file input start =
    then (script_read start.table.context.width input) (λ said.
    then (settings_read known_file start.known start.table said) (λ settings.
    Read (exploration_by start.table settings said.events)))

-- the exploration that `replay` records
abbrev pub replay_read : Text → Option Text → (Text → Told) → Option Text → Reading Exploration
replay_read file known_file tells input = then (start_read file known_file tells) (exploration_read known_file input)

-- the text of an exploration
abbrev pub exploration_output : Exploration → Output
exploration_output r = record { text = explore_text r.opening.table r.opening.settings r.journal; ending = ending_of (last_open r) }

-- what `replay` writes
abbrev pub replay_output : Text → Option Text → (Text → Told) → Option Text → Reading Output
replay_output file known_file tells input = then (replay_read file known_file tells input) (λ r. Read (exploration_output r))

-- The replay of the exploration's table on the text is exactly this exploration, whatever file has the table, if there is no known file.
-- Its text is the transcript and the sections, without the lines after them
abbrev pub IsFedBack : Exploration → Text → Type 0
IsFedBack r text = (file : Text) (tells : Text → Told) → table_read file (tells file) ≡ Read r.opening.table
    → replay_output file None tells (Some text) ≡ Read (exploration_output r)

-- its text spells its settings and its history
abbrev pub SpellsItself : Exploration → Type 0
SpellsItself r = Spells r.opening.table r.opening.settings r.journal (exploration_output r).text

-- What is promised of it, whatever its events were: its journal is one legal history with the questions and the basis of an exploration,
-- and the text that is written spells this history
pub record IsReplayed (r : Exploration) : Type 0 where
  pub explored : IsExplored r
  pub spells : SpellsItself r

-- the output of a replay that may have read this
pub record MayReplay (reading : Reading Exploration) (output : Output) : Type 0 where
  pub made : Exploration
  pub read : MayRead reading made
  pub is : IsReplayed made
  pub whole : output ≡ exploration_output made

-- ---- why it stops

-- The stop for a script that was read: with a known file its line `exploration 2` is at fault, and without one a row of the table that
-- breaks an implication of its settings
abbrev pub IsSettingsStop : Option Text → NamedContext → ScriptContent → Stop → Type 0
IsSettingsStop None table said stop = IsBreakStop said.settings.known table Input stop
IsSettingsStop (Some file) table said stop = (line : ℕ) × (said.second ≡ Some line) × (stop ≡ NoScript (BadLine line))

-- the stop for the script on the input, or, if that was read, for its settings
abbrev pub IsInputStop : Option Text → NamedContext → Option Text → Type 0 → Stop → Type 0
IsInputStop known_file table input rose stop = IsScriptStop table.context.width input rose stop
    ⊎ ((said : ScriptContent) × MayRead (script_read table.context.width input) said × IsSettingsStop known_file table said stop)

-- The stop for the files of a replay, or, if these were read, for its script
abbrev pub IsReplayStop : Text → Option Text → (Text → Told) → Option Text → (Text → Type 0) → Type 0 → Stop → Type 0
IsReplayStop file known_file tells input rises rose stop = IsStartStop file known_file tells rises stop
    ⊎ ((start : Start) × MayRead (start_read file known_file tells) start × IsInputStop known_file start.table input rose stop)
