-- The content of a script can be written. Each event is of an expert, and its row has the width. The settings have a valid number of
-- holders, implications of the width, and valid names. That holds of each line, case by case, and so of the script.
use Rattle.std.proofs.Common.{◌≡◌, ◌==◌, ◌&&◌, ◌<◌, ◌≤◌, ◌+◌, ℕ, Bool, true, false, cond, List, [], ◌∷◌, ◌++◌, map, length, get_or}
use Rattle.std.proofs.Common.{Option, Some, None, Result, Ok, Err, refl, sym, ◌∙◌, subst, inl, inr, arith, nat_le}
use Rattle.std.specs.Prelude.{IsUtf8, is_none, bytes_eq}
use Rattle.std.specs.Ordering.{nat_cmp}
use Rattle.std.specs.BTreeMap.{insert_entry}
use Rattle.std.specs.List.{list_all, position_or_len}
use Rattle.std.specs.Str.{is_utf8}
use Rattle.std.proofs.lemmas.Str.{IsUtf8-drop, IsUtf8-nil, IsUtf8-from_is_utf8, IsCharBoundary-after_ascii}
use Rattle.std.proofs.lemmas.Bool.{and_parts, and_from, cases_lt, eqb-true, leb-true}
use Rattle.std.proofs.lemmas.List.Sums.{passes_at_first}
use Rattle.std.proofs.lemmas.List.Folds.{list_all-append}
use Rattle.std.proofs.Math.ListN.{drop_of_length-le}
use Rattle.fca_model.specs.Sets.{Set}
use Rattle.fca_model.specs.Tables.{Text}
use Rattle.fca_model.specs.Names.{IsName, name_fault}
use Rattle.fca_model.specs.Implications.{Rule, rule}
use Rattle.fca_model.specs.Exploration.{SetEvent, is_expert}
use Rattle.fca_model.specs.declared.TheConstants.{MAX_EXPERTS}
use Rattle.fca_model.specs.declared.Event.TheVariants.{Draw, Confirm, Row, Leave}
use Rattle.implication_closure.specs.Closing.{has_width}
use Rattle.exploration_terms.specs.Settings.{name_of}
use Rattle.expert_wire.specs.declared.requests.RequestFault.{RequestFault}
use Rattle.expert_wire.specs.declared.requests.RequestFault.TheVariants.{Line, Width, Memory as RequestMemory}
use Rattle.text_pieces.specs.Lines.{lines}
use Rattle.expert_wire.specs.Lines.{numbered_lines}
use Rattle.expert_wire.specs.Replies.{heading}
use Rattle.text_pieces.specs.Numerals.{is_numeral, value_of}
use Rattle.text_pieces.specs.Words.{is_space, first_word, later_words}
use Rattle.expert_wire.specs.Patterns.{named_row, row_of_width, is_name, set_of_pattern}
use Rattle.expert_wire.proofs.SkipLemmas.{no_fault}
use Rattle.expert_scripts.specs.declared.known_fault.KnownFault.{KnownFault}
use Rattle.expert_scripts.specs.declared.known_fault.KnownFault.TheVariants.{BadWidth as WrongWidth}
use Rattle.expert_scripts.specs.Known.{rule_of_width, known_rule, with_first, all_ok}
use Rattle.expert_scripts.specs.declared.fault.ScriptFault.{ScriptFault}
use Rattle.expert_scripts.specs.declared.fault.ScriptFault.TheVariants.{BadLine, BadExpert, BadHolders}
use Rattle.expert_scripts.specs.Scripts.{ScriptContent, PartialSettings, no_settings, whole_settings, may_apply, expert_in, event_by}
use Rattle.expert_scripts.specs.Scripts.{row_by, event_of, events_of_lines, with_holders, with_holders_word, with_name, with_name_words}
use Rattle.expert_scripts.specs.Scripts.{with_rule, setting_of_words, setting_of, script_content, by_setting, settings_then_events}
use Rattle.expert_scripts.specs.Scripts.{content_of_lines, second_heading, script_form}
use Rattle.expert_scripts.specs.Transcripts.{SettingsCanBeWritten}
use Rattle.expert_scripts.proofs.NamedLemmas.{named-insert}

-- ---- events

-- the events of the answer can be applied
Fits : ℕ → Result SetEvent ScriptFault → Type 0
Fits n r = (event : SetEvent) → r ≡ Ok event → may_apply n event ≡ true

Fits-err : (n : ℕ) (fault : ScriptFault) → Fits n (Err fault)
unfolding Fits
Fits-err n fault event e = cc

Fits-ok : (n : ℕ) (event : SetEvent) → may_apply n event ≡ true → Fits n (Ok event)
unfolding Fits
Fits-ok n event may other e = let same : event ≡ other = cc in let P : SetEvent → Type 0 = λ x. may_apply n x ≡ true in subst P same may

Fits-cond : (n : ℕ) (b : Bool) (r s : Result SetEvent ScriptFault) → Fits n r → Fits n s → Fits n (cond b r s)
Fits-cond n true r s h k = h
Fits-cond n false r s h k = k

IsExperts : Result ℕ ScriptFault → Type 0
IsExperts r = (e : ℕ) → r ≡ Ok e → is_expert e ≡ true

expert_by : (a b : Bool) (v : ℕ) (f g : ScriptFault) → is_expert v ≡ b → IsExperts (cond a (cond b (Ok v) (Err f)) (Err g))
unfolding IsExperts
expert_by true true v f g h e q = let same : v ≡ e = cc in let P : ℕ → Type 0 = λ x. is_expert x ≡ true in subst P same h
expert_by true false v f g h e q = cc
expert_by false b v f g h e q = cc

expert_in-expert : (k : ℕ) (word : Text) → IsExperts (expert_in k word)
expert_in-expert k word = expert_by (is_numeral word) (is_expert (value_of word)) (value_of word) (BadExpert k) (BadLine k) refl

event_by-fits : (n : ℕ) (event : ℕ → SetEvent) → ((e : ℕ) → is_expert e ≡ true → may_apply n (event e) ≡ true) → (r : Result ℕ ScriptFault)
    → IsExperts r → Fits n (event_by event r)
unfolding IsExperts
event_by-fits n event good (Ok e) h = Fits-ok n (event e) (good e (h e refl))
event_by-fits n event good (Err fault) h = Fits-err n fault

IsWide : ℕ → Result (Text × Set) RequestFault → Type 0
IsWide n r = (x : Text × Set) → r ≡ Ok x → (length x.1 == n) ≡ true

wide_by : (n : ℕ) (b : Bool) (name : Text) (row : Set) → (length row == n) ≡ b → IsWide n (cond b (Ok (name, row)) (Err Width))
unfolding IsWide
wide_by n true name row h x q = let same : (name, row) ≡ x = cc in let P : Text × Set → Type 0 = λ y. (length y.1 == n) ≡ true in
    subst P same h
wide_by n false name row h x q = cc

row_of_width-wide : (n : ℕ) (name : Text) (row : Option Set) → IsWide n (row_of_width n name row)
unfolding IsWide
row_of_width-wide n name None x q = cc
row_of_width-wide n name (Some r) x q = wide_by n (length r == n) name r refl x q

named_by : (n : ℕ) (b : Bool) (r : Result (Text × Set) RequestFault) → IsWide n r → IsWide n (cond b r (Err Line))
unfolding IsWide
named_by n true r h = h
named_by n false r h = λ x q. cc

named_row-wide : (n : ℕ) (text : Text) → IsWide n (named_row n text)
named_row-wide n text = named_by n (is_name (later_words text)) (row_of_width n (later_words text) (set_of_pattern (first_word text)))
    (row_of_width-wide n (later_words text) (set_of_pattern (first_word text)))

row_by-fits : (n k : ℕ) (r : Result ℕ ScriptFault) (q : Result (Text × Set) RequestFault) → IsExperts r → IsWide n q → Fits n (row_by k r q)
unfolding IsExperts IsWide
row_by-fits n k r (Err Line) h w = Fits-err n _
row_by-fits n k r (Err RequestMemory) h w = Fits-err n _
row_by-fits n k (Err fault) (Err Width) h w = Fits-err n _
row_by-fits n k (Ok e) (Err Width) h w = Fits-err n _
row_by-fits n k (Err fault) (Ok x) h w = Fits-err n _
row_by-fits n k (Ok e) (Ok x) h w = Fits-ok n (Row e x.0 x.1) (and_from (is_expert e) (length x.1 == n) (h e refl) (w x refl))

event_of-fits : (n k : ℕ) (line : Text) → Fits n (event_of n k line)
event_of-fits n k line =
    let text = later_words line in
    let expert = expert_in-expert k text in
    let ruled : (b : Bool) → b ≡ true → (b && true) ≡ true = λ b h. and_from b true h refl in
    Fits-cond n _ _ _
    (Fits-cond n _ _ _ (event_by-fits n Draw (λ e h. ruled (is_expert e) h) _ expert)
    (Fits-cond n _ _ _ (event_by-fits n Confirm (λ e h. ruled (is_expert e) h) _ expert)
    (Fits-cond n _ _ _ (row_by-fits n k _ _ (expert_in-expert k (first_word text)) (named_row-wide n (later_words text)))
    (Fits-cond n _ _ _ (event_by-fits n Leave (λ e h. ruled (is_expert e) h) _ expert) (Fits-err n _)))))
    (Fits-err n _)

-- ---- all events

AllFit : ℕ → Result (List SetEvent) ScriptFault → Type 0
AllFit n r = (events : List SetEvent) → r ≡ Ok events → list_all (may_apply n) events ≡ true

AllFit-ok : (n : ℕ) (events : List SetEvent) → list_all (may_apply n) events ≡ true → AllFit n (Ok events)
unfolding AllFit
AllFit-ok n events may other e = let same : events ≡ other = cc in let P : List SetEvent → Type 0 = λ l. list_all (may_apply n) l ≡ true in
    subst P same may

first-fit : (n : ℕ) (event : SetEvent) (r : Result (List SetEvent) ScriptFault) → may_apply n event ≡ true → AllFit n r
    → AllFit n (with_first event r)
unfolding AllFit
first-fit n event (Ok events) may h = AllFit-ok n (event ∷ events)
    (and_from (may_apply n event) (list_all (may_apply n) events) may (h events refl))
first-fit n event (Err fault) may h = λ events e. cc

all_ok-fit : (n : ℕ) (r : Result SetEvent ScriptFault) (rs : List (Result SetEvent ScriptFault)) → Fits n r → AllFit n (all_ok rs)
    → AllFit n (all_ok (r ∷ rs))
unfolding Fits AllFit
all_ok-fit n (Ok event) rs h k = first-fit n event (all_ok rs) (h event refl) k
all_ok-fit n (Err fault) rs h k = λ events e. cc

events_of_lines-fit : (n : ℕ) (said : List (ℕ × Text)) → AllFit n (events_of_lines n said)
events_of_lines-fit n [] = AllFit-ok n [] refl
events_of_lines-fit n (l ∷ said) = all_ok-fit n (event_of n l.0 l.1) (map (λ (l : ℕ × Text). event_of n l.0 l.1) said)
    (event_of-fits n l.0 l.1) (events_of_lines-fit n said)

-- ---- lines of settings

-- the settings of the answer can be written
Tells : ℕ → Result PartialSettings ScriptFault → Type 0
Tells n r = (t : PartialSettings) → r ≡ Ok t → SettingsCanBeWritten n (whole_settings t)

Tells-ok : (n : ℕ) (t : PartialSettings) → SettingsCanBeWritten n (whole_settings t) → Tells n (Ok t)
unfolding Tells
Tells-ok n t can other e = let same : t ≡ other = cc in let P : PartialSettings → Type 0 = λ x. SettingsCanBeWritten n (whole_settings x) in
    subst P same can

Tells-err : (n : ℕ) (fault : ScriptFault) → Tells n (Err fault)
unfolding Tells
Tells-err n fault t e = cc

-- an answer that is given only if the test passes
Tells-if : (n : ℕ) (b : Bool) (r : Result PartialSettings ScriptFault) (fault : ScriptFault) → (b ≡ true → Tells n r)
    → Tells n (cond b r (Err fault))
Tells-if n true r fault h = h refl
Tells-if n false r fault h = Tells-err n fault

with_holders_word-fit : (n k : ℕ) (t : PartialSettings) (word : Text) → SettingsCanBeWritten n (whole_settings t)
    → Tells n (with_holders_word k t word)
with_holders_word-fit n k t word can =
    let h = value_of word in
    Tells-if n (is_numeral word) (with_holders k t h) (BadLine k)
    (λ numeral. Tells-if n (is_expert h && is_none t.holders) (Ok (record t { holders = Some h })) (BadHolders k)
    (λ once. Tells-ok n (record t { holders = Some h })
    (record { holders = (and_parts (is_expert h) (is_none t.holders) once).0; known = can.known; names = can.names })))

-- the words after a space are UTF-8 if the whole is
pub utf8_later : (text : Text) → IsUtf8 text → IsUtf8 (later_words text)
utf8_later text h = elim (cases_lt (position_or_len is_space text) (length text)) [
  | inl lt ↦
      let space : get_or text (position_or_len is_space text) 0 ≡ 32 = eqb-true _ 32 (passes_at_first is_space text 0 lt) in
      let ascii : get_or text (position_or_len is_space text) 0 < 128 = omega arith in
      IsUtf8-drop text (position_or_len is_space text + 1) h (IsCharBoundary-after_ascii text (position_or_len is_space text) h lt ascii)
  | inr le ↦
      let none : later_words text ≡ [] = drop_of_length-le text (omega arith) in
      subst IsUtf8 (sym none) IsUtf8-nil
]

with_name_words-fit : (n k : ℕ) (t : PartialSettings) (words : Text) → IsUtf8 words → SettingsCanBeWritten n (whole_settings t)
    → Tells n (with_name_words k t words)
with_name_words-fit n k t words utf8 can =
    let e = value_of (first_word words) in
    let name = later_words words in
    let named = insert_entry nat_cmp t.expert_names e name in
    Tells-if n (is_numeral (first_word words) && is_name name) (with_name k t e name) (BadLine k)
    (λ shaped. Tells-if n (is_expert e && is_none (name_of e t.expert_names)) (Ok (record t { expert_names = named })) (BadExpert k)
    (λ once.
    let expert = and_parts (nat_le 1 e) (nat_le e MAX_EXPERTS) (and_parts (is_expert e) (is_none (name_of e t.expert_names)) once).0 in
    let first : 1 ≤ e = leb-true 1 e expert.0 in
    let last : e ≤ MAX_EXPERTS = leb-true e MAX_EXPERTS expert.1 in
    let faultless : name_fault name ≡ None = no_fault (name_fault name)
    (and_parts (is_numeral (first_word words)) (is_name name) shaped).1 in
    let is : IsName name = record { faultless = faultless; utf8 = utf8_later words utf8 } in
    Tells-ok n (record t { expert_names = named })
    (record {
      holders = can.holders;
      known = can.known;
      names = named-insert 0 e name t.expert_names (omega arith) last is can.names;
    })))

-- a line of a known file gives an implication of the width
IsWideRule : ℕ → Result Rule KnownFault → Type 0
IsWideRule n r = (i : Rule) → r ≡ Ok i → has_width n i ≡ true

wide_rule_by : (n k : ℕ) (P C : Set) (b : Bool) → ((length P == n) && (length C == n)) ≡ b
    → IsWideRule n (cond b (Ok (rule P C)) (Err (WrongWidth k)))
unfolding IsWideRule
wide_rule_by n k P C true h i e = let same : rule P C ≡ i = cc in let Q : Rule → Type 0 = λ x. has_width n x ≡ true in subst Q same h
wide_rule_by n k P C false h i e = cc

rule_of_width-wide : (n k : ℕ) (premise conclusion : Option Set) → IsWideRule n (rule_of_width n k premise conclusion)
unfolding IsWideRule
rule_of_width-wide n k None conclusion i e = cc
rule_of_width-wide n k (Some P) None i e = cc
rule_of_width-wide n k (Some P) (Some C) i e = wide_rule_by n k P C ((length P == n) && (length C == n)) refl i e

with_rule-fit : (n : ℕ) (t : PartialSettings) (r : Result Rule KnownFault) → IsWideRule n r → SettingsCanBeWritten n (whole_settings t)
    → Tells n (with_rule t r)
unfolding IsWideRule
with_rule-fit n t (Err fault) wide can = Tells-err n _
with_rule-fit n t (Ok i) wide can =
    Tells-ok n (record t { known = t.known ++ i ∷ [] }) (record {
      holders = can.holders;
      known = list_all-append (has_width n) t.known (i ∷ [])
          ∙ and_from (list_all (has_width n) t.known) (has_width n i && true) can.known (and_from (has_width n i) true (wide i refl) refl);
      names = can.names;
    })

-- the settings of an answer, if it has some, can be written
MayTell : ℕ → Option (Result PartialSettings ScriptFault) → Type 0
MayTell n o = (t : PartialSettings) → o ≡ Some (Ok t) → SettingsCanBeWritten n (whole_settings t)

MayTell-some : (n : ℕ) (r : Result PartialSettings ScriptFault) → Tells n r → MayTell n (Some r)
unfolding Tells MayTell
MayTell-some n r h t e = let same : r ≡ Ok t = cc in h t same

MayTell-none : (n : ℕ) → MayTell n None
unfolding MayTell
MayTell-none n t e = cc

MayTell-cond : (n : ℕ) (b : Bool) (o p : Option (Result PartialSettings ScriptFault)) → MayTell n o → MayTell n p → MayTell n (cond b o p)
MayTell-cond n true o p h k = h
MayTell-cond n false o p h k = k

setting_of_words-fit : (n k : ℕ) (t : PartialSettings) (verb words : Text) → IsUtf8 words → SettingsCanBeWritten n (whole_settings t)
    → MayTell n (setting_of_words n k t verb words)
setting_of_words-fit n k t verb words utf8 can =
    let wide = rule_of_width-wide n k (set_of_pattern (first_word words)) (set_of_pattern (first_word (later_words words))) in
    MayTell-cond n _ _ _ (MayTell-some n _ (with_holders_word-fit n k t words can))
    (MayTell-cond n _ _ _ (MayTell-some n _ (with_name_words-fit n k t words utf8 can))
    (MayTell-cond n _ _ _ (MayTell-some n _ (with_rule-fit n t (known_rule n k words) wide can)) (MayTell-none n)))

setting_of-fit : (n k : ℕ) (t : PartialSettings) (line : Text) → SettingsCanBeWritten n (whole_settings t)
    → MayTell n (setting_of n k t line)
setting_of-fit n k t line can = by (is_utf8 line) refl
  where
    by : (b : Bool) → is_utf8 line ≡ b → MayTell n (cond b (setting_of_words n k t (first_word line) (later_words line)) None)
    by true h = setting_of_words-fit n k t (first_word line) (later_words line) (utf8_later line (IsUtf8-from_is_utf8 line h)) can
    by false h = MayTell-none n

-- ---- all lines

-- the content can be written
pub record IsFine (n : ℕ) (said : ScriptContent) : Type 0 where
  pub writable : SettingsCanBeWritten n said.settings
  pub fits : list_all (may_apply n) said.events ≡ true

AreFine : ℕ → Result ScriptContent ScriptFault → Type 0
AreFine n r = (said : ScriptContent) → r ≡ Ok said → IsFine n said

AreFine-ok : (n : ℕ) (said : ScriptContent) → IsFine n said → AreFine n (Ok said)
unfolding AreFine
AreFine-ok n said fine other e = let same : said ≡ other = cc in subst (IsFine n) same fine

AreFine-err : (n : ℕ) (fault : ScriptFault) → AreFine n (Err fault)
unfolding AreFine
AreFine-err n fault said e = cc

AreFine-cond : (n : ℕ) (b : Bool) (r s : Result ScriptContent ScriptFault) → AreFine n r → AreFine n s → AreFine n (cond b r s)
AreFine-cond n true r s h k = h
AreFine-cond n false r s h k = k

script_content-fine : (n : ℕ) (t : PartialSettings) (second : Option ℕ) (r : Result (List SetEvent) ScriptFault)
    → SettingsCanBeWritten n (whole_settings t) → AllFit n r → AreFine n (script_content t second r)
unfolding AllFit
script_content-fine n t second (Ok events) can fit =
    AreFine-ok n (record { settings = whole_settings t; events = events; second = second })
    (record { writable = can; fits = fit events refl })
script_content-fine n t second (Err fault) can fit = AreFine-err n fault

by_setting-fine : (n : ℕ) (o : Option (Result PartialSettings ScriptFault)) (later : PartialSettings → Result ScriptContent ScriptFault)
    (otherwise : Result ScriptContent ScriptFault)
    → MayTell n o → ((t : PartialSettings) → SettingsCanBeWritten n (whole_settings t) → AreFine n (later t)) → AreFine n otherwise
    → AreFine n (by_setting o later otherwise)
unfolding MayTell
by_setting-fine n None later otherwise h f g = g
by_setting-fine n (Some (Ok t)) later otherwise h f g = f t (h t refl)
by_setting-fine n (Some (Err fault)) later otherwise h f g = AreFine-err n fault

settings_then_events-fine : (n second : ℕ) (ls : List (ℕ × Text)) (t : PartialSettings) → SettingsCanBeWritten n (whole_settings t)
    → AreFine n (settings_then_events n t second ls)
settings_then_events-fine n second [] t can = script_content-fine n t (Some second) (Ok []) can (AllFit-ok n [] refl)
settings_then_events-fine n second (l ∷ ls) t can =
    by_setting-fine n (setting_of n l.0 t l.1) (λ later. settings_then_events n later second ls)
    (script_content t (Some second) (events_of_lines n (l ∷ ls))) (setting_of-fit n l.0 t l.1 can)
    (λ later h. settings_then_events-fine n second ls later h)
    (script_content-fine n t (Some second) (events_of_lines n (l ∷ ls)) can (events_of_lines-fit n (l ∷ ls)))

content_of_lines-fine : (n : ℕ) (t : PartialSettings) (ls : List (ℕ × Text)) → SettingsCanBeWritten n (whole_settings t)
    → AreFine n (content_of_lines n t ls)
content_of_lines-fine n t [] can = script_content-fine n t None (Ok []) can (AllFit-ok n [] refl)
content_of_lines-fine n t (l ∷ ls) can =
    AreFine-cond n (bytes_eq l.1 heading) _ _ (script_content-fine n t None (events_of_lines n ls) can (events_of_lines-fit n ls))
    (AreFine-cond n (bytes_eq l.1 second_heading) _ _ (settings_then_events-fine n l.0 ls t can)
    (script_content-fine n t None (events_of_lines n (l ∷ ls)) can (events_of_lines-fit n (l ∷ ls))))

pub nothing-fine : (n : ℕ) → SettingsCanBeWritten n (whole_settings no_settings)
nothing-fine n = record { holders = refl; known = refl; names = tt }

pub script_form-fine : (bytes : Text) (n : ℕ) (said : ScriptContent) → script_form bytes n ≡ Ok said → IsFine n said
unfolding script_form AreFine
script_form-fine bytes n = content_of_lines-fine n no_settings (numbered_lines 1 (lines bytes)) (nothing-fine n)
