-- A transcript is read back as its settings and its events, also if lines that begin with `#` follow. No part of a line has a line break,
-- so the lines of the text are the lines that were written. The lines of settings come first. Then come the events, each after the
-- skipped line of the reply before it.
use Rattle.std.proofs.Common.{◌≡◌, ℕ, ◌+◌, Bool, true, false, ◌&&◌, cond, List, [], ◌∷◌, ◌++◌, map, length, Option, Some, None, Result}
use Rattle.std.proofs.Common.{Ok, Err, refl, sym, ap, ap₂, ◌∙◌, arith, append_assoc, append-nil, inl, inr}
use Rattle.std.specs.Prelude.{codes, decimal, is_none, ◌==◌, nat_le, IsUtf8}
use Rattle.std.specs.Str.{is_utf8}
use Rattle.std.specs.List.{list_any, list_all, flat_map}
use Rattle.std.specs.Ordering.{nat_cmp}
use Rattle.std.specs.BTreeMap.{insert_entry}
use Rattle.std.proofs.lemmas.List.{nil_from_length}
use Rattle.std.proofs.lemmas.Bool.{and_parts, and_from, cases_Bool, eqb-true, le-leb}
use Rattle.std.proofs.lemmas.Str.{IsUtf8-append, IsUtf8-from_ascii, is_utf8-from_IsUtf8}
use Rattle.fca_model.specs.Sets.{Set}
use Rattle.fca_model.specs.Tables.{Text}
use Rattle.fca_model.specs.Names.{is_line_break, IsName}
use Rattle.fca_model.specs.Implications.{Rule}
use Rattle.fca_model.specs.Exploration.{Settings, RowName, SetEvent, SetEntry, plain, events_of, is_expert}
use Rattle.fca_model.specs.declared.TheConstants.{MAX_EXPERTS}
use Rattle.fca_model.specs.declared.Event.TheVariants.{Draw, Confirm, Row, Leave}
use Rattle.attr_bits.specs.Difference.{minus}
use Rattle.implication_closure.specs.Closing.{has_width, HaveWidth}
use Rattle.exploration_terms.specs.Settings.{name_of}
use Rattle.text_pieces.specs.Lines.{lines}
use Rattle.expert_wire.specs.Lines.{is_skipped, numbered_lines}
use Rattle.expert_wire.specs.Texts.{line_end, pattern, names_of, comma_tail, names_in_braces, braces_text, arrow_text, full_text}
use Rattle.expert_wire.specs.Replies.{heading, reply_text}
use Rattle.text_pieces.specs.Numerals.{is_numeral, value_of}
use Rattle.text_pieces.specs.Words.{is_space, first_word, later_words}
use Rattle.expert_wire.specs.Patterns.{is_name}
use Rattle.expert_wire.proofs.LineLemmas.{numbered_lines-kept}
use Rattle.text_pieces.proofs.NumeralLemmas.{utf8_decimal, decimal_no_space}
use Rattle.text_pieces.proofs.WordLemmas.{before_first-at, after_first-at}
use Rattle.expert_wire.proofs.ReadLemmas.{pattern_no_break, ascii_pattern, utf8_words}
use Rattle.text_pieces.proofs.LineLemmas.{lines-line, no_break-append}
use Rattle.text_pieces.proofs.NumeralLemmas.{no_break-decimal}
use Rattle.expert_wire.proofs.SkipLemmas.{Skips, Skips-comment, no_break-name, no_break-full, no_break-reply}
use Rattle.expert_scripts.specs.Known.{known_rule, with_first, all_ok}
use Rattle.expert_scripts.proofs.KnownLemmas.{full_text-read}
use Rattle.expert_scripts.specs.declared.fault.ScriptFault.{ScriptFault}
use Rattle.expert_scripts.specs.declared.fault.ScriptFault.TheVariants.{BadLine, BadExpert, BadHolders}
use Rattle.expert_scripts.specs.Scripts.{ScriptContent, PartialSettings, no_settings, EventCanBeWritten, EachEventCanBeWritten, event_of}
use Rattle.expert_scripts.specs.Scripts.{events_of_lines, with_holders, with_holders_word, with_name, with_name_words, with_rule}
use Rattle.expert_scripts.specs.Scripts.{setting_of_words, setting_of, script_content, settings_then_events, content_of_lines}
use Rattle.expert_scripts.specs.Scripts.{second_heading, script_form}
use Rattle.expert_scripts.specs.Transcripts.{event_text, entries_text, is_plain, known_line, name_line, names_text, settings_text}
use Rattle.text_pieces.specs.Lists.{EachName}
use Rattle.expert_scripts.specs.Transcripts.{opening_text, transcript, second_of, AreExpertNames, SettingsCanBeWritten}
use Rattle.expert_scripts.proofs.StageLemmas.{setting_taken, setting_none}
use Rattle.expert_scripts.proofs.NamedLemmas.{AreBelow, below-more, unnamed, insert-last, below-push, names_text-listed}
use Rattle.expert_scripts.proofs.EventLemmas.{expert_numeral, utf8_verb, utf8_space, event_of-event_text}

-- ---- names

pub are_names : (names : List Text) → EachName names → list_all is_name names ≡ true
are_names [] h = refl
are_names (name ∷ names) h = and_from (is_name name) (list_all is_name names) (ap is_none h.0.faultless) (are_names names h.1)

utf8_continued : (names : List Text) → EachName names → IsUtf8 (comma_tail names)
utf8_continued [] h = utf8_words [] refl
utf8_continued (name ∷ names) h =
    IsUtf8-append (codes ", ") (name ++ comma_tail names) (utf8_words (codes ", ") refl)
    (IsUtf8-append name (comma_tail names) h.0.utf8 (utf8_continued names h.1))

utf8_braced : (names : List Text) → EachName names → IsUtf8 (names_in_braces names)
utf8_braced [] h = utf8_words (codes "{}") refl
utf8_braced (name ∷ names) h =
    IsUtf8-append (codes "{") ((name ++ comma_tail names) ++ codes "}") (utf8_words (codes "{") refl)
    (IsUtf8-append (name ++ comma_tail names) (codes "}") (IsUtf8-append name (comma_tail names) h.0.utf8 (utf8_continued names h.1))
    (utf8_words (codes "}") refl))

EachName-names_of : (attributes : List Text) (A : Set) → EachName attributes → EachName (names_of attributes A)
EachName-names_of [] A h = tt
EachName-names_of (name ∷ names) [] h = tt
EachName-names_of (name ∷ names) (true ∷ A) h = (h.0, EachName-names_of names A h.1)
EachName-names_of (name ∷ names) (false ∷ A) h = EachName-names_of names A h.1

utf8_full : (attributes : List Text) (i : Rule) → EachName attributes → IsUtf8 (full_text attributes i)
utf8_full attributes i h =
    let premise = utf8_braced (names_of attributes i.premise) (EachName-names_of attributes i.premise h) in
    let gained = utf8_braced (names_of attributes (minus i.conclusion i.premise))
    (EachName-names_of attributes (minus i.conclusion i.premise) h) in
    let arrow = IsUtf8-append (braces_text attributes i.premise)
    (codes " -> " ++ braces_text attributes (minus i.conclusion i.premise)) premise
    (IsUtf8-append (codes " -> ") (braces_text attributes (minus i.conclusion i.premise)) (utf8_words (codes " -> ") refl) gained) in
    let later = IsUtf8-append (pattern i.conclusion) (codes " " ++ arrow_text attributes i)
    (IsUtf8-from_ascii (pattern i.conclusion) (ascii_pattern i.conclusion)) (utf8_space (arrow_text attributes i) arrow) in
    IsUtf8-append (pattern i.premise) (codes " " ++ (pattern i.conclusion ++ (codes " " ++ arrow_text attributes i)))
    (IsUtf8-from_ascii (pattern i.premise) (ascii_pattern i.premise))
    (utf8_space (pattern i.conclusion ++ (codes " " ++ arrow_text attributes i)) later)

-- ---- one line of settings

settings_verb : (n k : ℕ) (t : PartialSettings) (verb text : Text) → list_any is_space verb ≡ false → IsUtf8 (verb ++ (32 ∷ text))
    → setting_of n k t (verb ++ (32 ∷ text)) ≡ setting_of_words n k t verb text
settings_verb n k t verb text one whole =
    let line = verb ++ (32 ∷ text) in
    ap (λ b. cond b (setting_of_words n k t (first_word line) (later_words line)) None) (is_utf8-from_IsUtf8 line whole)
    ∙ ap₂ (setting_of_words n k t) (before_first-at is_space verb 32 text one refl) (after_first-at is_space verb 32 text one refl)

holders_written : (k : ℕ) (t : PartialSettings) (h : ℕ) → is_expert h ≡ true → t.holders ≡ None
    → with_holders_word k t (decimal h) ≡ Ok (record t { holders = Some h })
holders_written k t h e none =
    let written = expert_numeral h e in
    ap (λ b. cond b (with_holders k t (value_of (decimal h))) (Err (BadLine k))) written.0
    ∙ ap (with_holders k t) written.1
    ∙ ap (λ b. cond b (Ok (record t { holders = Some h })) (Err (BadHolders k)))
    (and_from (is_expert h) (is_none t.holders) e (ap is_none none))

name_written : (k : ℕ) (t : PartialSettings) (e : ℕ) (name : RowName) → is_expert e ≡ true → name_of e t.expert_names ≡ None → IsName name
    → with_name_words k t (decimal e ++ (32 ∷ name)) ≡ Ok (record t { expert_names = insert_entry nat_cmp t.expert_names e name })
name_written k t e name h none named =
    let written = expert_numeral e h in
    let later = record t { expert_names = insert_entry nat_cmp t.expert_names e name } in
    ap₂ (λ a b. cond (is_numeral a && is_name b) (with_name k t (value_of a) b) (Err (BadLine k)))
    (before_first-at is_space (decimal e) 32 name (decimal_no_space e) refl)
    (after_first-at is_space (decimal e) 32 name (decimal_no_space e) refl)
    ∙ ap (λ b. cond b (with_name k t (value_of (decimal e)) name) (Err (BadLine k)))
    (and_from (is_numeral (decimal e)) (is_name name) written.0 (ap is_none named.faultless))
    ∙ ap (λ v. with_name k t v name) written.1
    ∙ ap (λ b. cond b (Ok later) (Err (BadExpert k))) (and_from (is_expert e) (is_none (name_of e t.expert_names)) h (ap is_none none))

settings_line : (n k : ℕ) (t later : PartialSettings) (second : ℕ) (x rest : Text) → list_any is_line_break x ≡ false → is_skipped x ≡ false
    → setting_of n k t x ≡ Some (Ok later)
    → settings_then_events n t second (numbered_lines k (lines ((x ++ line_end) ++ rest))) ≡ settings_then_events n later second
    (numbered_lines (k + 1) (lines rest))
settings_line n k t later second x rest whole said e =
    ap (λ z. settings_then_events n t second (numbered_lines k (lines z))) (append_assoc x line_end rest)
    ∙ ap (λ ls. settings_then_events n t second (numbered_lines k ls)) (lines-line x rest whole)
    ∙ ap (settings_then_events n t second) (numbered_lines-kept k x (lines rest) said)
    ∙ setting_taken n k x t later second e (numbered_lines (k + 1) (lines rest))

-- ---- all lines of settings

settled_holders : (n k : ℕ) (t : PartialSettings) (second h : ℕ) (rest : Text) → is_expert h ≡ true → t.holders ≡ None
    → settings_then_events n t second (numbered_lines k (lines (((codes "holders " ++ decimal h) ++ line_end) ++ rest)))
    ≡ settings_then_events n (record t { holders = Some h }) second (numbered_lines (k + 1) (lines rest))
settled_holders n k t second h rest e none =
    settings_line n k t (record t { holders = Some h }) second (codes "holders " ++ decimal h) rest (no_break-decimal h) refl
    (settings_verb n k t (codes "holders") (decimal h) refl (utf8_verb (codes "holders") (decimal h) refl (utf8_decimal h))
    ∙ ap Some (holders_written k t h e none))

settings_known : (n : ℕ) (attributes : List Text) (J : List Rule) (k : ℕ) (t : PartialSettings) (second : ℕ) (rest : Text)
    → EachName attributes → HaveWidth n J
    → (m : ℕ) × (settings_then_events n t second (numbered_lines k (lines (flat_map (known_line attributes) J ++ rest)))
    ≡ settings_then_events n (record t { known = t.known ++ J }) second (numbered_lines m (lines rest)))
settings_known n attributes [] k t second rest names wide =
    (k, ap (λ K. settings_then_events n (record t { known = K }) second (numbered_lines k (lines rest))) (sym (append-nil t.known)))
settings_known n attributes (i ∷ J) k t second rest names wide =
    let parts = and_parts (has_width n i) (list_all (has_width n) J) wide in
    let both = and_parts (length i.premise == n) (length i.conclusion == n) parts.0 in
    let later = record t { known = t.known ++ i ∷ [] } in
    let text = full_text attributes i in
    let more = flat_map (known_line attributes) J in
    let read : with_rule t (known_rule n k text) ≡ Ok later =
    ap (with_rule t) (full_text-read n k attributes i (eqb-true (length i.premise) n both.0) (eqb-true (length i.conclusion) n both.1))
    in
    let first = settings_line n k t later second (codes "known " ++ text) (more ++ rest)
    (no_break-full attributes i (are_names attributes names)) refl
    (settings_verb n k t (codes "known") text refl (utf8_verb (codes "known") text refl (utf8_full attributes i names)) ∙ ap Some read) in
    let later = settings_known n attributes J (k + 1) later second rest names parts.1 in (
      later.0,
      ap (λ z. settings_then_events n t second (numbered_lines k (lines z))) (append_assoc (known_line attributes i) more rest)
          ∙ first
          ∙ later.1
          ∙ ap (λ K. settings_then_events n (record t { known = K }) second (numbered_lines later.0 (lines rest)))
          (append_assoc t.known (i ∷ []) J),
    )

settings_names : (n : ℕ) (xs : List (ℕ × RowName)) (low k : ℕ) (t : PartialSettings) (second : ℕ) (rest : Text) → AreExpertNames low xs
    → AreBelow (low + 1) t.expert_names
    → (m : ℕ) × (settings_then_events n t second (numbered_lines k (lines (flat_map name_line xs ++ rest))) ≡ settings_then_events n
    (record t { expert_names = t.expert_names ++ xs }) second (numbered_lines m (lines rest)))
settings_names n [] low k t second rest named below = (
  k,
  ap (λ l. settings_then_events n (record t { expert_names = l }) second (numbered_lines k (lines rest))) (sym
      (append-nil t.expert_names)),
)
settings_names n (x ∷ xs) low k t second rest named below =
    let e = x.0 in
    let first = named.0 in
    let bounds : is_expert e ≡ true = and_from (nat_le 1 e) (nat_le e MAX_EXPERTS) (le-leb 1 e (omega arith))
    (le-leb e MAX_EXPERTS named.1) in
    let under = below-more (low + 1) e t.expert_names (omega arith) below in
    let later = record t { expert_names = t.expert_names ++ x ∷ [] } in
    let words = decimal e ++ (32 ∷ x.1) in
    let utf8 = IsUtf8-append (decimal e) (32 ∷ x.1) (utf8_decimal e) (utf8_space x.1 named.2.utf8) in
    let more = flat_map name_line xs in
    let whole = no_break-append (decimal e) (32 ∷ x.1) (no_break-decimal e) (no_break-name x.1 (ap is_none named.2.faultless)) in
    let read : with_name_words k t words ≡ Ok later = name_written k t e x.1 bounds (unnamed e t.expert_names under) named.2
    ∙ ap (λ l. Ok (record t { expert_names = l })) (insert-last e x.1 t.expert_names under) in
    let line = settings_line n k t later second (codes "expert " ++ words) (more ++ rest) whole refl
    (settings_verb n k t (codes "expert") words refl (utf8_verb (codes "expert") words refl utf8) ∙ ap Some read) in
    let later = settings_names n xs e (k + 1) later second rest named.3 (below-push e (e + 1) x.1 t.expert_names (omega arith) under) in (
      later.0,
      ap (λ z. settings_then_events n t second (numbered_lines k (lines z))) (append_assoc (name_line x) more rest)
          ∙ line
          ∙ later.1
          ∙ ap (λ l. settings_then_events n (record t { expert_names = l }) second (numbered_lines later.0 (lines rest)))
          (append_assoc t.expert_names (x ∷ []) xs),
    )

-- ---- the entries

no_break-event : (n : ℕ) (event : SetEvent) → EventCanBeWritten n event → list_any is_line_break (event_text event) ≡ false
no_break-event n (Draw e) h = no_break-decimal e
no_break-event n (Confirm e) h = no_break-decimal e
no_break-event n (Leave e) h = no_break-decimal e
no_break-event n (Row e name r) h =
    no_break-append (decimal e) (codes " " ++ (pattern r ++ (codes " " ++ name))) (no_break-decimal e)
    (no_break-append (pattern r) (codes " " ++ name) (pattern_no_break r) (no_break-name name (ap is_none h.named.faultless)))

event_not_skipped : (event : SetEvent) → is_skipped (event_text event) ≡ false
event_not_skipped (Draw e) = refl
event_not_skipped (Confirm e) = refl
event_not_skipped (Leave e) = refl
event_not_skipped (Row e name r) = refl

-- the lines of the first entry
entry_said : (n k : ℕ) (attributes : List Text) (entry : SetEntry) (H : List SetEntry) (tail : Text) → list_all is_name attributes ≡ true
    → EventCanBeWritten n entry.event
    → (m : ℕ) × (numbered_lines k (lines (entries_text attributes (entry ∷ H) ++ tail)) ≡ (k, event_text entry.event) ∷ numbered_lines m
    (lines (entries_text attributes H ++ tail)))
entry_said n k attributes entry H tail names said =
    let more = entries_text attributes H ++ tail in
    let comment = codes "# " ++ (reply_text attributes entry.reply ++ line_end) in
    let x = Skips-comment (reply_text attributes entry.reply) (no_break-reply attributes entry.reply names) (k + 1) more in (
      x.0,
      ap (λ t. numbered_lines k (lines t)) (regroup (event_text entry.event) comment (entries_text attributes H) tail)
          ∙ ap (numbered_lines k) (lines-line (event_text entry.event) (comment ++ more) (no_break-event n entry.event said))
          ∙ numbered_lines-kept k (event_text entry.event) (lines (comment ++ more)) (event_not_skipped entry.event)
          ∙ ap (λ ls. (k, event_text entry.event) ∷ ls) x.1,
    )
  where
    regroup : (a b c d : Text) → ((a ++ (line_end ++ b)) ++ c) ++ d ≡ a ++ (10 ∷ (b ++ (c ++ d)))
    regroup a b c d = simp append_assoc

entries_said : (n k : ℕ) (attributes : List Text) (H : List SetEntry) (tail : Text) → list_all is_name attributes ≡ true
    → EachEventCanBeWritten n H → Skips tail
    → events_of_lines n (numbered_lines k (lines (entries_text attributes H ++ tail))) ≡ Ok (events_of H)
entries_said n k attributes [] tail names said skips =
    let x = skips k [] in ap (events_of_lines n) (ap (λ t. numbered_lines k (lines t)) (sym (append-nil tail)) ∙ x.1)
entries_said n k attributes (entry ∷ H) tail names said skips =
    let x = entry_said n k attributes entry H tail names said.0 in
    ap (events_of_lines n) x.1
    ∙ ap (λ r. all_ok (r ∷ map (λ l. event_of n l.0 l.1) (numbered_lines x.0 (lines (entries_text attributes H ++ tail)))))
    (event_of-event_text n k entry.event said.0)
    ∙ ap (with_first entry.event) (entries_said n x.0 attributes H tail names said.1 skips)

-- an event is no line of settings
no_setting : (n k : ℕ) (t : PartialSettings) (verb text : Text) → list_any is_space verb ≡ false → setting_of_words n k t verb text ≡ None
    → setting_of n k t (verb ++ (32 ∷ text)) ≡ None
no_setting n k t verb text one none =
    let line = verb ++ (32 ∷ text) in
    ap₂ (λ v w. cond (is_utf8 line) (setting_of_words n k t v w) None) (before_first-at is_space verb 32 text one refl)
    (after_first-at is_space verb 32 text one refl)
    ∙ ap (λ o. cond (is_utf8 line) o None) none
    ∙ same (is_utf8 line)
  where
    nothing : Option (Result PartialSettings ScriptFault)
    nothing = None

    same : (b : Bool) → cond b nothing nothing ≡ nothing
    same true = refl
    same false = refl

event_no_setting : (n k : ℕ) (t : PartialSettings) (event : SetEvent) → setting_of n k t (event_text event) ≡ None
event_no_setting n k t (Draw e) = no_setting n k t (codes "draw") (decimal e) refl refl
event_no_setting n k t (Confirm e) = no_setting n k t (codes "confirm") (decimal e) refl refl
event_no_setting n k t (Leave e) = no_setting n k t (codes "leave") (decimal e) refl refl
event_no_setting n k t (Row e name r) = no_setting n k t (codes "row") (decimal e ++ (32 ∷ (pattern r ++ (32 ∷ name)))) refl refl

settled_entries : (n k : ℕ) (attributes : List Text) (H : List SetEntry) (tail : Text) (t : PartialSettings) (second : ℕ)
    → list_all is_name attributes ≡ true → EachEventCanBeWritten n H → Skips tail
    → settings_then_events n t second (numbered_lines k (lines (entries_text attributes H ++ tail))) ≡ script_content t (Some second)
    (Ok (events_of H))
settled_entries n k attributes [] tail t second names said skips =
    let x = skips k [] in ap (settings_then_events n t second) (ap (λ z. numbered_lines k (lines z)) (sym (append-nil tail)) ∙ x.1)
settled_entries n k attributes (entry ∷ H) tail t second names said skips =
    let x = entry_said n k attributes entry H tail names said.0 in
    ap (settings_then_events n t second) x.1
    ∙ setting_none n k (event_text entry.event) t second (event_no_setting n k t entry.event)
    (numbered_lines x.0 (lines (entries_text attributes H ++ tail)))
    ∙ ap (script_content t (Some second)) (sym (ap (events_of_lines n) x.1) ∙ entries_said n k attributes (entry ∷ H) tail names said skips)

-- ---- the whole

pub plain_is : (s : Settings) → is_plain s ≡ true → s ≡ plain
plain_is s h =
    let first = and_parts (length s.known == 0) ((s.holders == MAX_EXPERTS) && (length s.expert_names == 0)) h in
    let later = and_parts (s.holders == MAX_EXPERTS) (length s.expert_names == 0) first.1 in
    ap (λ (K : List Rule). record { known = K; holders = s.holders; expert_names = s.expert_names })
    (nil_from_length s.known (eqb-true (length s.known) 0 first.0))
    ∙ ap₂ (λ (h : ℕ) (l : List (ℕ × RowName)). record { known = []; holders = h; expert_names = l })
    (eqb-true s.holders MAX_EXPERTS later.0) (nil_from_length s.expert_names (eqb-true (length s.expert_names) 0 later.1))

pub plain_not : (s : Settings) → ¬ (s ≡ plain) → is_plain s ≡ false
plain_not s h = elim (cases_Bool (is_plain s)) [
  | inl t ↦ absurd (h (plain_is s t))
  | inr f ↦ f
]

pub opening_text-other : (attributes : List Text) (s : Settings) → ¬ (s ≡ plain)
    → opening_text attributes s ≡ (second_heading ++ line_end) ++ settings_text attributes s
opening_text-other attributes s h = ap (λ b. cond b (heading ++ line_end) ((second_heading ++ line_end) ++ settings_text attributes s))
    (plain_not s h)

abbrev read_back : Settings → List SetEntry → Option ℕ → Result ScriptContent ScriptFault
read_back s H second = Ok (record { settings = s; events = events_of H; second = second })

first_version : (n : ℕ) (attributes : List Text) (H : List SetEntry) (tail : Text) → list_all is_name attributes ≡ true
    → EachEventCanBeWritten n H → Skips tail
    → script_form (((heading ++ line_end) ++ entries_text attributes H) ++ tail) n ≡ read_back plain H None
unfolding script_form
first_version n attributes H tail names said skips =
    let rest = entries_text attributes H ++ tail in
    ap (λ z. content_of_lines n no_settings (numbered_lines 1 (lines z))) (regroup heading (entries_text attributes H) tail)
    ∙ ap (λ ls. content_of_lines n no_settings (numbered_lines 1 ls)) (lines-line heading rest refl)
    ∙ ap (content_of_lines n no_settings) (numbered_lines-kept 1 heading (lines rest) refl)
    ∙ ap (script_content no_settings None) (entries_said n 2 attributes H tail names said skips)
  where
    regroup : (a b c : Text) → ((a ++ line_end) ++ b) ++ c ≡ a ++ (10 ∷ (b ++ c))
    regroup a b c = simp append_assoc

second_version : (n : ℕ) (attributes : List Text) (s : Settings) (H : List SetEntry) (tail : Text) → EachName attributes
    → SettingsCanBeWritten n s → EachEventCanBeWritten n H → Skips tail
    → script_form ((((second_heading ++ line_end) ++ settings_text attributes s) ++ entries_text attributes H) ++ tail) n ≡ read_back s H
    (Some 1)
unfolding script_form
second_version n attributes s H tail names can said skips =
    let rest = entries_text attributes H ++ tail in
    let named = names_text s.expert_names ++ rest in
    let known = flat_map (known_line attributes) s.known ++ named in
    let held = (codes "holders " ++ decimal s.holders) ++ line_end in
    let t1 = record no_settings { holders = Some s.holders } in
    let t2 = record t1 { known = s.known } in
    let t3 = record t2 { expert_names = s.expert_names } in
    let x = settings_known n attributes s.known 3 t1 1 named names can.known in
    let y = settings_names n s.expert_names 0 x.0 t2 1 rest can.names tt in
    ap (λ z. content_of_lines n no_settings (numbered_lines 1 (lines z)))
    (regroup second_heading held (flat_map (known_line attributes) s.known) (names_text s.expert_names)
    (entries_text attributes H) tail)
    ∙ ap (λ ls. content_of_lines n no_settings (numbered_lines 1 ls)) (lines-line second_heading (held ++ known) refl)
    ∙ ap (content_of_lines n no_settings) (numbered_lines-kept 1 second_heading (lines (held ++ known)) refl)
    ∙ settled_holders n 2 no_settings 1 s.holders known can.holders refl
    ∙ x.1
    ∙ ap (λ l. settings_then_events n t2 1 (numbered_lines x.0 (lines (l ++ rest)))) (names_text-listed s.expert_names can.names)
    ∙ y.1
    ∙ settled_entries n y.0 attributes H tail t3 1 (are_names attributes names) said skips
  where
    regroup : (a b c d e f : Text) → (((a ++ line_end) ++ (b ++ (c ++ d))) ++ e) ++ f ≡ a ++ (10 ∷ (b ++ (c ++ (d ++ (e ++ f)))))
    regroup a b c d e f = simp append_assoc

pub script_form-transcript : (n : ℕ) (attributes : List Text) (s : Settings) (H : List SetEntry) (tail : Text) → EachName attributes
    → SettingsCanBeWritten n s → EachEventCanBeWritten n H → Skips tail
    → script_form (transcript attributes s H ++ tail) n ≡ Ok (record { settings = s; events = events_of H; second = second_of s })
script_form-transcript n attributes s H tail names can said skips =
    let first = heading ++ line_end in
    let second = (second_heading ++ line_end) ++ settings_text attributes s in
    elim (cases_Bool (is_plain s)) [
      | inl t ↦
          ap (λ b. script_form ((cond b first second ++ entries_text attributes H) ++ tail) n) t
          ∙ first_version n attributes H tail (are_names attributes names) said skips
          ∙ ap₂ (λ p b. read_back p H (cond b None (Some 1))) (sym (plain_is s t)) (sym t)
      | inr f ↦
          ap (λ b. script_form ((cond b first second ++ entries_text attributes H) ++ tail) n) f
          ∙ second_version n attributes s H tail names can said skips
          ∙ ap (λ b. read_back s H (cond b None (Some 1))) (sym f)
    ]
