-- The line of an event is read back as this event, if its expert, the width of its row and the name are valid.
use Rattle.std.proofs.Common.{◌≡◌, ◌<◌, ◌≤◌, ℕ, ◌^◌, true, false, cond, ◌∷◌, ◌++◌, length, Ok, Err, refl, ap, ap₂, ◌∙◌, subst, arith, ltb}
use Rattle.std.proofs.Common.{append_assoc}
use Rattle.std.specs.Prelude.{codes, decimal, IsUtf8, nat_le, ◌==◌}
use Rattle.std.specs.List.{list_any, list_all}
use Rattle.std.proofs.lemmas.Bool.{and_parts, leb-true}
use Rattle.std.proofs.lemmas.Str.{IsUtf8-append, IsUtf8-from_ascii, is_utf8-from_IsUtf8}
use Rattle.fca_model.specs.Sets.{Set}
use Rattle.fca_model.specs.Tables.{Text}
use Rattle.fca_model.specs.Names.{IsName}
use Rattle.fca_model.specs.Exploration.{SetEvent, is_expert}
use Rattle.fca_model.specs.declared.TheConstants.{MAX_EXPERTS}
use Rattle.fca_model.specs.declared.Event.TheVariants.{Draw, Confirm, Row, Leave}
use Rattle.expert_wire.specs.Texts.{pattern}
use Rattle.text_pieces.specs.Numerals.{is_numeral, value_of}
use Rattle.text_pieces.specs.Words.{is_space, first_word, later_words}
use Rattle.expert_wire.specs.Patterns.{named_row}
use Rattle.text_pieces.proofs.NumeralLemmas.{numeral-decimal, utf8_decimal, decimal_no_space}
use Rattle.text_pieces.proofs.WordLemmas.{before_first-at, after_first-at}
use Rattle.expert_wire.proofs.ReadLemmas.{ascii_pattern, utf8_words, named_row-written}
use Rattle.expert_scripts.specs.declared.fault.ScriptFault.TheVariants.{BadLine, BadExpert}
use Rattle.expert_scripts.specs.Scripts.{EventCanBeWritten, expert_in, event_by, row_by, row_event, event_of, event_of_words}
use Rattle.expert_scripts.specs.Transcripts.{event_text}

-- the number of an expert in digits
pub expert_numeral : (e : ℕ) → is_expert e ≡ true → (is_numeral (decimal e) ≡ true) × (value_of (decimal e) ≡ e)
expert_numeral e h =
    let bounds = and_parts (nat_le 1 e) (nat_le e MAX_EXPERTS) h in
    let few : e ≤ MAX_EXPERTS = leb-true e MAX_EXPERTS bounds.1 in
    let small : e < 2 ^ 64 = omega arith in
    numeral-decimal e small

expert_in-decimal : (k e : ℕ) → is_expert e ≡ true → expert_in k (decimal e) ≡ Ok e
expert_in-decimal k e h =
    let written = expert_numeral e h in
    ap (λ b. cond b (cond (is_expert (value_of (decimal e))) (Ok (value_of (decimal e))) (Err (BadExpert k))) (Err (BadLine k))) written.0
    ∙ ap (λ v. cond (is_expert v) (Ok v) (Err (BadExpert k))) written.1
    ∙ ap (λ b. cond b (Ok e) (Err (BadExpert k))) h

-- what stands after a verb and a space is UTF-8
pub utf8_verb : (verb text : Text) → list_all (λ x. ltb x 128) (verb ++ codes " ") ≡ true → IsUtf8 text → IsUtf8 (verb ++ (32 ∷ text))
utf8_verb verb text ascii utf8 =
    subst IsUtf8 (append_assoc verb (codes " ") text) (IsUtf8-append (verb ++ codes " ") text (utf8_words (verb ++ codes " ") ascii) utf8)

pub utf8_space : (text : Text) → IsUtf8 text → IsUtf8 (32 ∷ text)
utf8_space text h = IsUtf8-append (codes " ") text (utf8_words (codes " ") refl) h

-- a line of a verb and more
of_verb : (n k : ℕ) (verb text : Text) → list_any is_space verb ≡ false → list_all (λ x. ltb x 128) (verb ++ codes " ") ≡ true → IsUtf8 text
    → event_of n k (verb ++ (32 ∷ text)) ≡ event_of_words n k verb text
of_verb n k verb text one ascii utf8 =
    let line = verb ++ (32 ∷ text) in
    ap (λ b. cond b (event_of_words n k (first_word line) (later_words line)) (Err (BadLine k)))
    (is_utf8-from_IsUtf8 line (utf8_verb verb text ascii utf8))
    ∙ ap₂ (event_of_words n k) (before_first-at is_space verb 32 text one refl) (after_first-at is_space verb 32 text one refl)

row_event-written : (n k e : ℕ) (r : Set) (name : Text) → is_expert e ≡ true → (length r == n) ≡ true → IsName name
    → row_event n k (decimal e ++ (32 ∷ (pattern r ++ (32 ∷ name)))) ≡ Ok (Row e name r)
row_event-written n k e r name expert wide named =
    let rest = pattern r ++ (32 ∷ name) in
    ap₂ (λ w t. row_by k (expert_in k w) (named_row n t)) (before_first-at is_space (decimal e) 32 rest (decimal_no_space e) refl)
    (after_first-at is_space (decimal e) 32 rest (decimal_no_space e) refl)
    ∙ ap₂ (row_by k) (expert_in-decimal k e expert) (named_row-written n r name wide named)

utf8_row : (e : ℕ) (r : Set) (name : Text) → IsName name → IsUtf8 (decimal e ++ (32 ∷ (pattern r ++ (32 ∷ name))))
utf8_row e r name named =
    IsUtf8-append (decimal e) (32 ∷ (pattern r ++ (32 ∷ name))) (utf8_decimal e)
    (utf8_space (pattern r ++ (32 ∷ name)) (IsUtf8-append (pattern r) (32 ∷ name) (IsUtf8-from_ascii (pattern r) (ascii_pattern r))
    (utf8_space name named.utf8)))

pub event_of-event_text : (n k : ℕ) (event : SetEvent) → EventCanBeWritten n event → event_of n k (event_text event) ≡ Ok event
event_of-event_text n k (Draw e) h = of_verb n k (codes "draw") (decimal e) refl refl (utf8_decimal e)
    ∙ ap (event_by Draw) (expert_in-decimal k e h.expert)
event_of-event_text n k (Confirm e) h = of_verb n k (codes "confirm") (decimal e) refl refl (utf8_decimal e)
    ∙ ap (event_by Confirm) (expert_in-decimal k e h.expert)
event_of-event_text n k (Leave e) h = of_verb n k (codes "leave") (decimal e) refl refl (utf8_decimal e)
    ∙ ap (event_by Leave) (expert_in-decimal k e h.expert)
event_of-event_text n k (Row e name r) h =
    of_verb n k (codes "row") (decimal e ++ (32 ∷ (pattern r ++ (32 ∷ name)))) refl refl (utf8_row e r name h.named)
    ∙ row_event-written n k e r name h.expert h.wide h.named
