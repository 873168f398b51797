-- The text of an exploration: its transcript and its results.
use Rattle.std.specs.Prelude.{◌≡◌, ⊤, ℕ, Result, Ok, Err, None, Bool, true, false, List, [], ◌∷◌, ◌++◌, map, fold, filter, length, codes}
use Rattle.std.specs.List.{flat_map, enumerate_from}
use Rattle.std.specs.BTreeMap.{insert_entry}
use Rattle.fca_model.specs.Sets.{Set, lectic_cmp}
use Rattle.fca_model.specs.Tables.{Text, NamedContext}
use Rattle.fca_model.specs.Implications.{Rule, rule}
use Rattle.fca_model.specs.Exploration.{State, Settings, SetEvent, SetReply, SetEntry, plain, opening, open_in, state_after, events_of}
use Rattle.fca_model.specs.Exploration.{journal_of}
use Rattle.fca_model.specs.declared.Event.TheVariants.{Row}
use Rattle.fca_model.specs.declared.Reply.TheVariants.{Taken}
use Rattle.explore_state.specs.History.{ExploreModel, state_of, open_of}
use Rattle.expert_wire.specs.Texts.{line_end, ordinal, pattern, full_text}
use Rattle.expert_wire.specs.Replies.{numbered_rule}
use Rattle.expert_scripts.specs.declared.fault.ScriptFault.{ScriptFault}
use Rattle.expert_scripts.specs.Scripts.{ScriptContent, HasRowName, script_form}
use Rattle.expert_scripts.specs.Transcripts.{transcript}
use Rattle.report_texts.specs.Reports.{count_line, implication_lines}
use Rattle.basis_report.specs.Comments.{comments}

-- ---- the recorded rows

-- the event and the reply of an entry that records a row
abbrev pub records_row : SetEvent → SetReply → Bool
records_row (Row e name r) (Taken place) = true
records_row event reply = false

-- `# I PATTERN NAME` of the row, if the entry records one
abbrev pub recorded_line : SetEvent → SetReply → Text
recorded_line (Row e name r) (Taken place) =
    codes "# " ++ (ordinal place ++ (codes " " ++ (pattern r ++ (codes " " ++ (name ++ line_end)))))
recorded_line event reply = []

-- the number of recorded rows, and a line for each
abbrev pub recorded_section : List SetEntry → Text
recorded_section H =
    count_line (codes "# recorded ") (length (filter (λ entry. records_row entry.event entry.reply) H))
    ++ flat_map (λ entry. recorded_line entry.event entry.reply) H

-- ---- implications

-- the accepted implications, each with its number among all rules. The first k rules are known beforehand
abbrev pub accepted_section : List Text → ℕ → List Rule → Text
accepted_section attributes k acc =
    count_line (codes "# accepted ") (length acc)
    ++ flat_map (λ x. (codes "# " ++ numbered_rule attributes x.0 x.1) ++ line_end) (enumerate_from k acc)

-- the number of open questions, and a line for each
abbrev pub open_section : List Text → List Rule → Text
open_section attributes J = count_line (codes "# open ") (length J) ++ flat_map (λ i. (codes "# " ++ full_text attributes i) ++ line_end) J

-- pairs of a premise and its conclusion, in the lectic order of the premises
abbrev pub conclusions_by_premise : List Rule → List (Set × Set)
conclusions_by_premise J = fold (λ entries i. insert_entry lectic_cmp entries i.premise i.conclusion) [] J

-- the implications in the lectic order of their premises, which differ
abbrev pub in_lectic_order : List Rule → List Rule
in_lectic_order J = map (λ entry. rule entry.0 entry.1) (conclusions_by_premise J)

-- the number of members of the basis J, and a line for each
abbrev pub basis_lines : List Text → List Rule → Text
basis_lines attributes J = count_line (codes "# basis ") (length J) ++ implication_lines (codes "# ") attributes J

-- the basis, if no question is open
abbrev pub basis_section : List Text → List Rule → List Rule → Text
basis_section attributes acc [] = count_line (codes "# basis ") (length acc) ++ implication_lines (codes "# ") attributes (in_lectic_order acc)
basis_section attributes acc (q ∷ J) = []

-- the four sections after the transcript
abbrev pub sections : List Text → List SetEntry → State → Text
sections attributes H s =
    recorded_section H ++ (accepted_section attributes (length s.settings.known) s.accepted
    ++ (open_section attributes (open_in s) ++ basis_section attributes s.accepted (open_in s)))

-- the state after the events of a history of the table
abbrev pub state_of_history : NamedContext → Settings → List SetEntry → State
state_of_history t settings H = state_after (opening t.context t.objects settings) (events_of H)

-- the text of a history of the table under these settings
unfoldable pub explore_text : NamedContext → Settings → List SetEntry → Text
explore_text t settings H = transcript t.attributes settings H ++ sections t.attributes H (state_of_history t settings H)

-- the part of such a text before the basis, if no question is open
abbrev pub text_before_basis : NamedContext → Settings → List SetEntry → Text
text_before_basis t settings H =
    transcript t.attributes settings H
    ++ (recorded_section H ++ (accepted_section t.attributes (length settings.known) (state_of_history t settings H).accepted
    ++ open_section t.attributes []))

-- ---- its pieces

-- the transcript
abbrev pub transcript_of : ExploreModel → Text
transcript_of h = transcript h.opening.table.attributes h.opening.settings h.journal

-- the sections between the transcript and the basis
abbrev pub sections_before_basis : ExploreModel → Text
sections_before_basis h =
    recorded_section h.journal
    ++ (accepted_section h.opening.table.attributes (length h.opening.settings.known) (state_of h).accepted
    ++ open_section h.opening.table.attributes (open_of h))

-- the section of the basis
abbrev pub basis_section_of : ExploreModel → Text
basis_section_of h = basis_section h.opening.table.attributes (state_of h).accepted (open_of h)

-- ---- the history that a text spells

-- the content of a script that was read. It is plain settings alone if the script has a fault
abbrev pub content_or_plain : Result ScriptContent ScriptFault → ScriptContent
content_or_plain (Ok said) = said
content_or_plain (Err fault) = record { settings = plain; events = []; second = None }

-- the content of a text as a script over the table
abbrev pub content_of_text : NamedContext → Text → ScriptContent
content_of_text t text = content_or_plain (script_form text t.context.width)

-- the settings that a text spells
abbrev pub spelled_settings : NamedContext → Text → Settings
spelled_settings t text = (content_of_text t text).settings

-- the journal of the events of a text, from the table under the settings of the text
abbrev pub spelled : NamedContext → Text → List SetEntry
spelled t text = journal_of (opening t.context t.objects (spelled_settings t text)) (content_of_text t text).events

-- the names of the rows of a history are valid
abbrev pub EachNamed : List SetEntry → Type 0
EachNamed [] = ⊤
EachNamed (entry ∷ H) = HasRowName entry.event × EachNamed H

-- the text is a script that spells the settings and the history
pub record Spells (t : NamedContext) (s : Settings) (H : List SetEntry) (text : Text) : Type 0 where
  pub script : script_form text t.context.width ≡ Ok (content_of_text t text)
  pub history : spelled t text ≡ H
  pub settings : spelled_settings t text ≡ s

-- the text of the history spells both, also if these lines follow
abbrev pub SpellsBefore : NamedContext → Settings → List SetEntry → List Text → Type 0
SpellsBefore t s H lines = Spells t s H (explore_text t s H ++ comments lines)
