-- Scripts: settings and events as lines of text.
--
-- Lines that are blank or begin with `#` are skipped. The first other line may be `exploration 1`; then each line is an event. Or it is
-- `exploration 2`; then lines of settings may stand before the events: how many experts may hold one question, what is known, and names
-- of experts. Over a and b the lines `exploration 2`, `holders 1`, `known X. .X`, `expert 2 Ann` and `draw 1` say that one expert may
-- hold a question, that a implies b is known, that expert 2 is Ann, and that expert 1 draws.
use Rattle.std.specs.Prelude.{◌≡◌, ⊤, ℕ, Bool, true, ◌&&◌, cond, Option, Some, None, Result, Ok, Err, List, [], ◌∷◌, ◌++◌, map, is_none}
use Rattle.std.specs.Prelude.{unwrap_or, bytes_eq, codes}
use Rattle.std.specs.Ordering.{nat_cmp}
use Rattle.std.specs.BTreeMap.{insert_entry}
use Rattle.std.specs.Str.{is_utf8}
use Rattle.fca_model.specs.Sets.{Set}
use Rattle.fca_model.specs.Tables.{Text}
use Rattle.fca_model.specs.Names.{IsName}
use Rattle.fca_model.specs.Implications.{Rule}
use Rattle.fca_model.specs.Exploration.{Settings, RowName, SetEvent, SetEntry, expert_of, has_row_of_width, is_expert}
use Rattle.fca_model.specs.declared.TheConstants.{MAX_EXPERTS}
use Rattle.fca_model.specs.declared.Event.TheVariants.{Draw, Confirm, Row, Leave}
use Rattle.exploration_terms.specs.Settings.{settings_of, name_of}
use Rattle.expert_wire.specs.declared.requests.RequestFault.{RequestFault}
use Rattle.expert_wire.specs.declared.requests.RequestFault.TheVariants.{Line, Width, Memory as RequestMemory}
use Rattle.text_pieces.specs.Lines.{lines}
use Rattle.expert_wire.specs.Lines.{numbered_lines}
use Rattle.expert_wire.specs.Replies.{heading}
use Rattle.text_pieces.specs.Numerals.{is_numeral, value_of}
use Rattle.text_pieces.specs.Words.{first_word, later_words}
use Rattle.expert_wire.specs.Patterns.{is_name, named_row}
use Rattle.expert_scripts.specs.declared.known_fault.KnownFault.{KnownFault}
use Rattle.expert_scripts.specs.declared.known_fault.KnownFault.TheVariants as known
use Rattle.expert_scripts.specs.Known.{known_rule, all_ok}
use Rattle.expert_scripts.specs.declared.fault.ScriptFault.{ScriptFault}
use Rattle.expert_scripts.specs.declared.fault.ScriptFault.TheVariants.{BadLine, BadExpert, BadWidth, BadHolders, Memory}
use Rattle.expert_scripts.specs.declared.scripts.Script as read

-- the content of a script: its settings, its events, and the number of the line `exploration 2` if it has one
pub record ScriptContent : Type 0 where
  pub settings : Settings
  pub events : List SetEvent
  pub second : Option ℕ

-- the content of a script that was read
abbrev pub content_of : read.Script → ScriptContent
content_of s = record { settings = settings_of s.settings; events = s.events; second = s.second }

-- ---- the event of one line

-- the expert whose number a word writes. The line is number k
abbrev pub expert_in : ℕ → Text → Result ℕ ScriptFault
expert_in k word =
    cond (is_numeral word) (cond (is_expert (value_of word)) (Ok (value_of word)) (Err (BadExpert k))) (Err (BadLine k))

-- the event of this expert
abbrev pub event_by : (ℕ → SetEvent) → Result ℕ ScriptFault → Result SetEvent ScriptFault
event_by event (Ok e) = Ok (event e)
event_by event (Err fault) = Err fault

-- the row of this expert. Of several faults the first of these counts: no shape of a row, no such expert, a wrong width
abbrev pub row_by : ℕ → Result ℕ ScriptFault → Result (Text × Set) RequestFault → Result SetEvent ScriptFault
row_by k expert (Err Line) = Err (BadLine k)
row_by k expert (Err RequestMemory) = Err Memory
row_by k (Err fault) (Err Width) = Err fault
row_by k (Ok e) (Err Width) = Err (BadWidth k)
row_by k (Err fault) (Ok x) = Err fault
row_by k (Ok e) (Ok x) = Ok (Row e x.0 x.1)

-- `E PATTERN NAME`
abbrev pub row_event : ℕ → ℕ → Text → Result SetEvent ScriptFault
row_event n k text = row_by k (expert_in k (first_word text)) (named_row n (later_words text))

-- the event of a line by its first word
abbrev pub event_of_words : ℕ → ℕ → Text → Text → Result SetEvent ScriptFault
event_of_words n k verb text =
    cond (bytes_eq verb (codes "draw")) (event_by Draw (expert_in k text))
    (cond (bytes_eq verb (codes "confirm")) (event_by Confirm (expert_in k text))
    (cond (bytes_eq verb (codes "row")) (row_event n k text)
    (cond (bytes_eq verb (codes "leave")) (event_by Leave (expert_in k text))
    (Err (BadLine k)))))

-- the event of line k, or its fault. Rows have width n
abbrev pub event_of : ℕ → ℕ → Text → Result SetEvent ScriptFault
event_of n k line = cond (is_utf8 line) (event_of_words n k (first_word line) (later_words line)) (Err (BadLine k))

-- the events of numbered lines, or the first fault
abbrev pub events_of_lines : ℕ → List (ℕ × Text) → Result (List SetEvent) ScriptFault
events_of_lines n said = all_ok (map (λ l. event_of n l.0 l.1) said)

-- ---- the settings of one line

-- the settings that were given so far
pub record PartialSettings : Type 0 where
  pub known : List Rule
  pub holders : Option ℕ
  pub expert_names : List (ℕ × RowName)

-- no settings yet
abbrev pub no_settings : PartialSettings
no_settings = record { known = []; holders = None; expert_names = [] }

-- the whole settings. What was not given is plain
abbrev pub whole_settings : PartialSettings → Settings
whole_settings t = record { known = t.known; holders = unwrap_or t.holders MAX_EXPERTS; expert_names = t.expert_names }

-- the settings with this number of holders, which may be given once
abbrev pub with_holders : ℕ → PartialSettings → ℕ → Result PartialSettings ScriptFault
with_holders k t h = cond (is_expert h && is_none t.holders) (Ok (record t { holders = Some h })) (Err (BadHolders k))

-- the settings with the number of holders in a word
abbrev pub with_holders_word : ℕ → PartialSettings → Text → Result PartialSettings ScriptFault
with_holders_word k t word = cond (is_numeral word) (with_holders k t (value_of word)) (Err (BadLine k))

-- the settings with this name of expert e, which may be given once
abbrev pub with_name : ℕ → PartialSettings → ℕ → RowName → Result PartialSettings ScriptFault
with_name k t e name =
    cond (is_expert e && is_none (name_of e t.expert_names)) (Ok (record t { expert_names = insert_entry nat_cmp t.expert_names e name }))
    (Err (BadExpert k))

-- the settings with the name in the words `E NAME`
abbrev pub with_name_words : ℕ → PartialSettings → Text → Result PartialSettings ScriptFault
with_name_words k t words =
    cond (is_numeral (first_word words) && is_name (later_words words)) (with_name k t (value_of (first_word words)) (later_words words))
    (Err (BadLine k))

-- the fault of a line of a known file as that of a script
abbrev pub rule_fault : KnownFault → ScriptFault
rule_fault (known.BadLine k) = BadLine k
rule_fault (known.BadWidth k) = BadWidth k
rule_fault known.Memory = Memory

-- the settings with one more known implication
abbrev pub with_rule : PartialSettings → Result Rule KnownFault → Result PartialSettings ScriptFault
with_rule t (Ok i) = Ok (record t { known = t.known ++ i ∷ [] })
with_rule t (Err fault) = Err (rule_fault fault)

-- the settings after a line, by its first word. None if it is no line of settings
abbrev pub setting_of_words : ℕ → ℕ → PartialSettings → Text → Text → Option (Result PartialSettings ScriptFault)
setting_of_words n k t verb words =
    cond (bytes_eq verb (codes "holders")) (Some (with_holders_word k t words))
    (cond (bytes_eq verb (codes "expert")) (Some (with_name_words k t words))
    (cond (bytes_eq verb (codes "known")) (Some (with_rule t (known_rule n k words)))
    None))

-- the settings after line k. None if it is no line of settings
abbrev pub setting_of : ℕ → ℕ → PartialSettings → Text → Option (Result PartialSettings ScriptFault)
setting_of n k t line = cond (is_utf8 line) (setting_of_words n k t (first_word line) (later_words line)) None

-- ---- all lines

-- the first line of the second version
abbrev pub second_heading : Text
second_heading = codes "exploration 2"

-- the content with these settings and events, or the fault
abbrev pub script_content : PartialSettings → Option ℕ → Result (List SetEvent) ScriptFault → Result ScriptContent ScriptFault
script_content t second (Ok events) = Ok (record { settings = whole_settings t; events = events; second = second })
script_content t second (Err fault) = Err fault

-- after a line of settings, what the later lines give, or its fault
abbrev pub by_setting : Option (Result PartialSettings ScriptFault) → (PartialSettings → Result ScriptContent ScriptFault)
    → Result ScriptContent ScriptFault → Result ScriptContent ScriptFault
by_setting None behind otherwise = otherwise
by_setting (Some (Ok t)) behind otherwise = behind t
by_setting (Some (Err fault)) behind otherwise = Err fault

-- the content of the lines after `exploration 2`, which is number `second`: settings, and from the first other line on events
abbrev pub settings_then_events : ℕ → PartialSettings → ℕ → List (ℕ × Text) → Result ScriptContent ScriptFault
settings_then_events n t second [] = script_content t (Some second) (Ok [])
settings_then_events n t second (l ∷ ls) =
    by_setting (setting_of n l.0 t l.1) (λ later. settings_then_events n later second ls)
    (script_content t (Some second) (events_of_lines n (l ∷ ls)))

-- the content of lines, of which the first may be a heading
abbrev pub content_of_lines : ℕ → PartialSettings → List (ℕ × Text) → Result ScriptContent ScriptFault
content_of_lines n t [] = script_content t None (Ok [])
content_of_lines n t (l ∷ ls) =
    cond (bytes_eq l.1 heading) (script_content t None (events_of_lines n ls))
    (cond (bytes_eq l.1 second_heading) (settings_then_events n t l.0 ls)
    (script_content t None (events_of_lines n (l ∷ ls))))

-- the content of a script, or its first fault. Rows and patterns have width n
unfoldable pub script_form : Text → ℕ → Result ScriptContent ScriptFault
script_form bytes n = content_of_lines n no_settings (numbered_lines 1 (lines bytes))

-- ---- what can be written

-- the event is of an expert, and its row, if it has one, has width n
abbrev pub may_apply : ℕ → SetEvent → Bool
may_apply n event = is_expert (expert_of event) && has_row_of_width n event

-- the name of the row is valid
abbrev pub HasRowName : SetEvent → Type 0
HasRowName (Row e name r) = IsName name
HasRowName event = ⊤

-- an event that is read back from its line: it is of an expert, and its row, if it has one, has width n and a valid name
pub record EventCanBeWritten (n : ℕ) (event : SetEvent) : Type 0 where
  pub expert : is_expert (expert_of event) ≡ true
  pub wide : has_row_of_width n event ≡ true
  pub named : HasRowName event

-- each event of the entries is read back from its line
abbrev pub EachEventCanBeWritten : ℕ → List SetEntry → Type 0
EachEventCanBeWritten n [] = ⊤
EachEventCanBeWritten n (entry ∷ H) = EventCanBeWritten n entry.event × EachEventCanBeWritten n H
