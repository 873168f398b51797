-- Events and settings as lines, and the transcript of an exploration.
--
-- The transcript of plain settings begins with `exploration 1`. Over a and b, if one expert may hold a question, a implies b is known,
-- and expert 2 is Ann, it begins with the lines `exploration 2`, `holders 1`, `known X. .X {a} -> {b}` and `expert 2 Ann`.
use Rattle.std.specs.Prelude.{◌≡◌, ◌≤◌, ◌<◌, ⊤, ℕ, zero, suc, ◌+◌, Bool, true, ◌&&◌, ◌==◌, cond, Option, Some, None, List, [], ◌∷◌, ◌++◌}
use Rattle.std.specs.Prelude.{length, codes, decimal}
use Rattle.std.specs.List.{flat_map}
use Rattle.fca_model.specs.Tables.{Text}
use Rattle.fca_model.specs.Names.{IsName}
use Rattle.fca_model.specs.Implications.{Rule}
use Rattle.fca_model.specs.Exploration.{Settings, RowName, SetEvent, SetEntry, is_expert}
use Rattle.fca_model.specs.declared.TheConstants.{MAX_EXPERTS}
use Rattle.fca_model.specs.declared.Event.TheVariants.{Draw, Confirm, Row, Leave}
use Rattle.implication_closure.specs.Closing.{HaveWidth}
use Rattle.exploration_terms.specs.Settings.{name_of}
use Rattle.expert_wire.specs.Texts.{line_end, pattern, full_text}
use Rattle.expert_wire.specs.Replies.{heading, reply_line}
use Rattle.expert_scripts.specs.Scripts.{second_heading}

-- ---- events and their replies

-- the text of an event in a script
abbrev pub event_text : SetEvent → Text
event_text (Draw e) = codes "draw " ++ decimal e
event_text (Confirm e) = codes "confirm " ++ decimal e
event_text (Row e name r) = codes "row " ++ (decimal e ++ (codes " " ++ (pattern r ++ (codes " " ++ name))))
event_text (Leave e) = codes "leave " ++ decimal e

-- the line of an event, and then `# ` with the line of the reply
abbrev pub entry_lines : List Text → SetEntry → Text
entry_lines attributes entry = event_text entry.event ++ (line_end ++ (codes "# " ++ reply_line attributes entry.reply))

-- the lines of all entries
abbrev pub entries_text : List Text → List SetEntry → Text
entries_text attributes [] = []
entries_text attributes (entry ∷ H) = entry_lines attributes entry ++ entries_text attributes H

-- ---- settings

-- plain settings: nothing is known, all experts may hold one question, and no expert has a name
abbrev pub is_plain : Settings → Bool
is_plain s = (length s.known == 0) && ((s.holders == MAX_EXPERTS) && (length s.expert_names == 0))

-- `known ` and the full text of an implication
abbrev pub known_line : List Text → Rule → Text
known_line attributes i = (codes "known " ++ full_text attributes i) ++ line_end

-- `expert E NAME`
abbrev pub name_line : ℕ × RowName → Text
name_line x = (codes "expert " ++ (decimal x.0 ++ (codes " " ++ x.1))) ++ line_end

-- the line of expert e, if the expert has a name
abbrev pub name_line_at : ℕ → Option RowName → Text
name_line_at e None = []
name_line_at e (Some name) = name_line (e, name)

-- the lines of `count` experts from number e on. An expert without a name has no line
abbrev pub name_lines_from : List (ℕ × RowName) → ℕ → ℕ → Text
name_lines_from names e zero = []
name_lines_from names e (suc count) = name_line_at e (name_of e names) ++ name_lines_from names (e + 1) count

-- the lines of all experts
unfoldable pub names_text : List (ℕ × RowName) → Text
names_text names = name_lines_from names 1 MAX_EXPERTS

-- the lines of settings
abbrev pub settings_text : List Text → Settings → Text
settings_text attributes s =
    ((codes "holders " ++ decimal s.holders) ++ line_end) ++ (flat_map (known_line attributes) s.known ++ names_text s.expert_names)

-- the lines before the first entry
abbrev pub opening_text : List Text → Settings → Text
opening_text attributes s = cond (is_plain s) (heading ++ line_end) ((second_heading ++ line_end) ++ settings_text attributes s)

-- ---- the whole

-- the heading, the settings if they are not plain, and each event with its reply
abbrev pub transcript : List Text → Settings → List SetEntry → Text
transcript attributes s H = opening_text attributes s ++ entries_text attributes H

-- the number of the line `exploration 2`, if the transcript has it
abbrev pub second_of : Settings → Option ℕ
second_of s = cond (is_plain s) None (Some 1)

-- ---- what can be written

-- valid names of experts, in ascending order of their numbers, which are above e
abbrev pub AreExpertNames : ℕ → List (ℕ × RowName) → Type 0
AreExpertNames e [] = ⊤
AreExpertNames e (x ∷ xs) = (e < x.0) × (x.0 ≤ MAX_EXPERTS) × IsName x.1 × AreExpertNames x.0 xs

-- settings that are read back from a transcript: 1 to MAX_EXPERTS holders, known implications of width n, and valid names of experts
pub record SettingsCanBeWritten (n : ℕ) (s : Settings) : Type 0 where
  pub holders : is_expert s.holders ≡ true
  pub known : HaveWidth n s.known
  pub names : AreExpertNames 0 s.expert_names
