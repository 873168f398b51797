-- The commands, word by word: exactly these lists of words are commands.
use Rattle.std.specs.Prelude.{◌≡◌, ℕ, ⊤, length, Bool, true, false, cond, Option, Some, None, List, [], ◌∷◌, ◌++◌, option_map}
use Rattle.std.specs.Prelude.{option_and_then, option_to_list, bytes_eq, codes}
use Rattle.std.specs.List.{list_all}
use Rattle.std.specs.Str.{is_utf8}
use Rattle.fca_model.specs.Tables.{Text}
use Rattle.fca_model.specs.Exploration.{is_expert}
use Rattle.fca_model.specs.declared.TheConstants.{MAX_ATTRIBUTES, MAX_SURVEYED}
use Rattle.context_table.specs.Recipes.{KeepsLimits}
use Rattle.fca_command.specs.Experts.{experts_of, expert_count}
use Rattle.fca_command.specs.Flags.{known_file, behind_known, wants_names, behind_names, serving_of}
use Rattle.fca_command.specs.Recipes.{recipe_of}
use Rattle.fca_command.specs.declared.command.Form.{Form}
use Rattle.fca_command.specs.declared.command.Form.TheVariants.{Cxt, Csv}
use Rattle.fca_command.specs.declared.command.Command.{Command}
use Rattle.fca_command.specs.declared.command.Command.TheVariants.{Concepts, Lattice, Basis, Direct, Follows, Convert, Reduce, Arrows}
use Rattle.fca_command.specs.declared.command.Command.TheVariants.{Scale, Replay, Explore, Serve, Make, Survey}

-- ---- the words after a command's file

-- no word, or `--json`
abbrev pub wants_json : List Text → Option Bool
wants_json [] = Some false
wants_json (word ∷ []) = cond (bytes_eq word (codes "--json")) (Some true) None
wants_json _ = None

-- `concepts F`, `concepts F --json`
abbrev pub concepts_call : Text → List Text → Option Command
concepts_call file later = option_map (λ json. Concepts file json) (wants_json later)

-- `lattice F`
abbrev pub lattice_call : Text → List Text → Option Command
lattice_call file [] = Some (Lattice file)
lattice_call file _ = None

-- `basis F`, `basis F --json`
abbrev pub basis_call : Text → List Text → Option Command
basis_call file later = option_map (λ json. Basis file json) (wants_json later)

-- `direct F`
abbrev pub direct_call : Text → List Text → Option Command
direct_call file [] = Some (Direct file)
direct_call file _ = None

-- `follows F A B`
abbrev pub follows_call : Text → List Text → Option Command
follows_call file (premise ∷ conclusion ∷ []) = Some (Follows file premise conclusion)
follows_call file _ = None

-- the form of a table that a word names
abbrev pub form_of : Text → Option Form
form_of word = cond (bytes_eq word (codes "cxt")) (Some Cxt) (cond (bytes_eq word (codes "csv")) (Some Csv) None)

-- `convert F cxt`, `convert F csv`
abbrev pub convert_call : Text → List Text → Option Command
convert_call file (word ∷ []) = option_map (λ to. Convert file to) (form_of word)
convert_call file _ = None

-- `reduce F`
abbrev pub reduce_call : Text → List Text → Option Command
reduce_call file [] = Some (Reduce file)
reduce_call file _ = None

-- `arrows F`
abbrev pub arrows_call : Text → List Text → Option Command
arrows_call file [] = Some (Arrows file)
arrows_call file _ = None

-- `scale F P`
abbrev pub scale_call : Text → List Text → Option Command
scale_call values (plan ∷ []) = cond (bytes_eq plan []) None (Some (Scale values plan))
scale_call values _ = None

-- the command with this known file, if no word is left
abbrev pub replay_by : Text → Option Text → List Text → Option Command
replay_by file known [] = Some (Replay file known)
replay_by file known _ = None

-- `replay F`, `replay F --known S`
abbrev pub replay_call : Text → List Text → Option Command
replay_call file later = replay_by file (known_file later) (behind_known later)

-- `explore F --expert G ..`, with `--known S`, `--names` or both before the experts
abbrev pub explore_call : Text → List Text → Option Command
explore_call file later =
    option_map (λ experts. Explore file (known_file later) (wants_names (behind_known later)) experts)
    (experts_of (behind_names (behind_known later)))

-- `serve F --experts N --listen A`, with `--known S` before the experts, `--holders H` after them, or both
abbrev pub serve_call : Text → List Text → Option Command
serve_call file later =
    option_map (λ s. Serve file (known_file later) s.0 s.1 s.2) (serving_of (behind_known later))

-- ---- all commands

-- the command of this name over a file, which reads more than the table
abbrev pub further_files_command : Text → Text → List Text → Option Command
further_files_command name file later =
    cond (bytes_eq name (codes "scale")) (scale_call file later)
    (cond (bytes_eq name (codes "replay")) (replay_call file later)
    (cond (bytes_eq name (codes "explore")) (explore_call file later)
    (cond (bytes_eq name (codes "serve")) (serve_call file later) None)))

-- the command of this name over a file that `file_command` does not have first
abbrev pub table_command : Text → Text → List Text → Option Command
table_command name file later =
    cond (bytes_eq name (codes "follows")) (follows_call file later)
    (cond (bytes_eq name (codes "convert")) (convert_call file later)
    (cond (bytes_eq name (codes "reduce")) (reduce_call file later)
    (cond (bytes_eq name (codes "arrows")) (arrows_call file later) (further_files_command name file later))))

-- the command of this name over a file, whose name is not empty
abbrev pub file_command : Text → Text → List Text → Option Command
file_command name file later =
    cond (bytes_eq file []) None
    (cond (bytes_eq name (codes "concepts")) (concepts_call file later)
    (cond (bytes_eq name (codes "lattice")) (lattice_call file later)
    (cond (bytes_eq name (codes "basis")) (basis_call file later)
    (cond (bytes_eq name (codes "direct")) (direct_call file later) (table_command name file later)))))

-- the command of this name over the file that the next word names
abbrev pub over_file : Text → List Text → Option Command
over_file name [] = None
over_file name (file ∷ later) = file_command name file later

-- `make S O M D`
abbrev pub make_call : List Text → Option Command
make_call (seed ∷ objects ∷ attributes ∷ density ∷ []) =
    option_map (λ r. Make r.seed r.objects r.attributes r.density) (recipe_of MAX_ATTRIBUTES seed objects attributes density)
make_call _ = None

-- `survey S O M D E`
abbrev pub survey_call : List Text → Option Command
survey_call (seed ∷ objects ∷ attributes ∷ density ∷ experts ∷ []) =
    option_and_then (λ r. option_map (λ count. Survey r.seed r.objects r.attributes r.density count) (expert_count experts))
    (recipe_of MAX_SURVEYED seed objects attributes density)
survey_call _ = None

-- the command of this name, by the words after it
abbrev pub named_command : Text → List Text → Option Command
named_command name later =
    cond (bytes_eq name (codes "make")) (make_call later)
    (cond (bytes_eq name (codes "survey")) (survey_call later) (over_file name later))

abbrev pub text_command : List Text → Option Command
text_command [] = None
text_command (name ∷ later) = named_command name later

-- the command that the words are: each word is text
abbrev pub command_form : List Text → Option Command
command_form words = cond (list_all is_utf8 words) (text_command words) None

-- ---- what a command reads

-- the file of the table that the command reports on, if it writes a text about one table and does nothing else
abbrev pub report_file : Command → Option Text
report_file (Concepts file json) = Some file
report_file (Lattice file) = Some file
report_file (Basis file json) = Some file
report_file (Direct file) = Some file
report_file (Follows file premise conclusion) = Some file
report_file (Convert file to) = Some file
report_file (Reduce file) = Some file
report_file (Arrows file) = Some file
report_file _ = None

-- the files that a command reads, in their order, by the file that it reports on, if there is one
abbrev pub files_by : Option Text → Command → List Text
files_by (Some file) command = file ∷ []
files_by None (Scale values plan) = values ∷ plan ∷ []
files_by None (Replay file known) = file ∷ option_to_list known
files_by None (Explore file known names experts) = file ∷ option_to_list known ++ experts
files_by None (Serve file known experts holders listen) = file ∷ option_to_list known
files_by None _ = []

-- the files that the command reads, in their order
abbrev pub files_of : Command → List Text
files_of command = files_by (report_file command) command

-- the name of the first of the files, or an empty name
abbrev pub first_file_of : List Text → Text
first_file_of [] = []
first_file_of (file ∷ later) = file

-- the known file, if the command reads one
abbrev pub known_file_of : Command → Option Text
known_file_of (Replay file known) = known
known_file_of (Explore file known names experts) = known
known_file_of (Serve file known experts holders listen) = known
known_file_of _ = None

-- the files that the command reads after its first and its known file, in their order
abbrev pub later_files_of : Command → List Text
later_files_of (Scale values plan) = plan ∷ []
later_files_of (Explore file known names experts) = experts
later_files_of _ = []

-- whether the command reads the input
abbrev pub reads_input : Command → Bool
reads_input (Replay file known) = true
reads_input _ = false

-- whether the command listens for experts
abbrev pub uses_link : Command → Bool
uses_link (Serve file known experts holders listen) = true
uses_link _ = false

-- whether the text of the command may leave a question open
abbrev pub may_end_open : Command → Bool
may_end_open (Replay file known) = true
may_end_open (Serve file known experts holders listen) = true
may_end_open _ = false

-- whether the command waits for nobody
abbrev pub waits_for_nobody : Command → Bool
waits_for_nobody (Explore file known names experts) = false
waits_for_nobody (Serve file known experts holders listen) = false
waits_for_nobody (Survey seed objects attributes density experts) = false
waits_for_nobody _ = true

-- the limits of a command's values: 1 to 64 experts and holders, and those of a recipe
abbrev pub IsWithinLimits : Command → Type 0
IsWithinLimits (Explore file known names experts) = is_expert (length experts) ≡ true
IsWithinLimits (Serve file known experts holders listen) = (is_expert experts ≡ true) × (is_expert holders ≡ true)
IsWithinLimits (Make seed objects attributes density) =
    KeepsLimits MAX_ATTRIBUTES (record { seed = seed; objects = objects; attributes = attributes; density = density })
IsWithinLimits (Survey seed objects attributes density experts) =
    KeepsLimits MAX_SURVEYED (record { seed = seed; objects = objects; attributes = attributes; density = density })
    × (is_expert experts ≡ true)
IsWithinLimits _ = ⊤
