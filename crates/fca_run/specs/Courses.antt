-- The course of a command that explores: which exploration its text tells of, and what is promised of it.
--
-- If the file T has no object over a and b and the input says `draw 1`, the text of `replay T` tells of the exploration of T by 64 experts.
-- All of them may hold one question, and nothing is known. The history has one entry: expert 1 draws and is asked {} -> {a, b}, which is
-- open.
use Rattle.std.specs.Prelude.{◌≡◌, ◌≤◌, ◌++◌, ⊤, Option, List, [], length}
use Rattle.fca_model.specs.Tables.{Text}
use Rattle.fca_model.specs.Pseudo.{basis_known}
use Rattle.fca_model.specs.declared.TheConstants.{FILE_BYTES}
use Rattle.fca_io.specs.Shelves.{Told}
use Rattle.explore_state.specs.History.{Opening}
use Rattle.basis_report.specs.Explorations.{basis_lines, explore_text, text_before_basis, Spells}
use Rattle.fca_command.specs.declared.command.Command.{Command}
use Rattle.fca_command.specs.declared.command.Command.TheVariants.{Replay, Explore, Serve}
use Rattle.command_io.specs.Readings.{Reading, then, MayRead}
use Rattle.command_io.specs.Readings.Reading.{Refused, Read}
use Rattle.command_io.specs.Known.{start_read}
use Rattle.command_io.specs.Explorations.{Exploration, opening_of, last_state, last_open, IsExplored}
use Rattle.replay_command.specs.Replayed.{replay_read, IsFedBack}
use Rattle.explore_command.specs.Starts.{explore_read}
use Rattle.serve_command.specs.Openings.{opening_by}

-- What the exploration of a command is opened with: the table in its file, how many experts, and its settings. Those of `replay` are what
-- the script says, or just what the known file says; those of `explore`, what is known and the names of the experts; those of `serve`, what
-- is known and how many may hold one question
abbrev pub opening_read : Command → (Text → Told) → Option Text → Reading Opening
opening_read (Replay file known) tells input = then (replay_read file known tells input) (λ r. Read r.opening)
opening_read (Explore file known names experts) tells input =
    then (explore_read file known names experts tells) (λ start. Read (opening_of start.table (length start.expert_tables) start.settings))
opening_read (Serve file known experts holders listen) tells input =
    then (start_read file known tells) (λ start. Read (opening_by experts holders start))
opening_read _ tells input = Refused

-- the lines of the basis of what is recorded, beside what is known
abbrev pub known_basis_lines : Exploration → Text
known_basis_lines r = basis_lines r.opening.table.attributes (basis_known r.opening.settings.known (last_state r).context)

-- The text tells of the exploration that was opened so
pub record TellsExploration (opened : Reading Opening) (text : Text) : Type 0 where
  -- one exploration: what it was opened with, which is what the command says, and its one history
  pub exploration : Exploration
  pub opening : MayRead opened exploration.opening
  -- the text begins with what is printed of it, and is a script that spells its settings and this history
  pub later : Text
  pub printed : text ≡ explore_text exploration.opening.table exploration.opening.settings exploration.journal ++ later
  pub spells : Spells exploration.opening.table exploration.opening.settings exploration.journal text
  -- the history is legal; at each step the accepted implications are members of the basis beside what is known, and what is asked is open;
  -- if no question is open at the end, they are that basis
  pub explored : IsExplored exploration
  -- if no question is open, the section of the basis is the basis of all recorded rows from scratch, in lectic order
  pub basis : last_open exploration ≡ []
      → text ≡ text_before_basis exploration.opening.table exploration.opening.settings exploration.journal ++ (known_basis_lines exploration ++ later)
  -- if the text is no longer than a file may be, its replay is exactly this exploration
  pub fed_back : length text ≤ FILE_BYTES → IsFedBack exploration text

-- if the command explores, the text tells of the exploration of its table, as its words, these files and this input say
abbrev pub HasCourse : Command → (Text → Told) → Option Text → Text → Type 0
HasCourse (Replay file known) tells input text = TellsExploration (opening_read (Replay file known) tells input) text
HasCourse (Explore file known names experts) tells input text =
    TellsExploration (opening_read (Explore file known names experts) tells input) text
HasCourse (Serve file known experts holders listen) tells input text =
    TellsExploration (opening_read (Serve file known experts holders listen) tells input) text
HasCourse _ tells input text = ⊤
