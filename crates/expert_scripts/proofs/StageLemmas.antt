-- What one line changes in the content of a script: an event comes after those before it, a line of settings changes the settings, a
-- heading decides which lines may come, and the first fault is that of the whole.
use Rattle.std.proofs.Common.{◌≡◌, ℕ, true, false, cond, List, [], ◌∷◌, ◌++◌, map, Option, Some, None, Result, Ok, Err, refl, ap, sym}
use Rattle.std.proofs.Common.{◌∙◌, append_assoc, append-nil}
use Rattle.std.specs.Str.{bytes_eq}
use Rattle.fca_model.specs.Tables.{Text}
use Rattle.fca_model.specs.Exploration.{SetEvent}
use Rattle.text_pieces.specs.Lines.{lines}
use Rattle.expert_wire.specs.Lines.{numbered_lines}
use Rattle.expert_wire.specs.Replies.{heading}
use Rattle.expert_scripts.specs.Known.{with_first, all_ok}
use Rattle.expert_scripts.specs.declared.fault.ScriptFault.{ScriptFault}
use Rattle.expert_scripts.specs.Scripts.{ScriptContent, PartialSettings, no_settings, whole_settings, event_of, events_of_lines}
use Rattle.expert_scripts.specs.Scripts.{setting_of, by_setting, script_content, settings_then_events, content_of_lines, second_heading}
use Rattle.expert_scripts.specs.Scripts.{script_form}
use Rattle.expert_scripts.specs.Stages.{after_events}

-- the content with these events
abbrev saying : PartialSettings → Option ℕ → List SetEvent → Result ScriptContent ScriptFault
saying t second events = Ok (record { settings = whole_settings t; events = events; second = second })

pub after_events-nothing : (r : Result ScriptContent ScriptFault) → after_events [] r ≡ r
after_events-nothing (Ok said) = refl
after_events-nothing (Err fault) = refl

pub after_events-end : (events : List SetEvent) (t : PartialSettings) (second : Option ℕ)
    → after_events events (script_content t second (Ok [])) ≡ saying t second events
after_events-end events t second = ap (saying t second) (append-nil events)

-- ---- events

after_events-first : (events : List SetEvent) (t : PartialSettings) (second : Option ℕ) (event : SetEvent)
    (r : Result (List SetEvent) ScriptFault)
    → after_events events (script_content t second (with_first event r)) ≡ after_events (events ++ event ∷ []) (script_content t second r)
after_events-first events t second event (Ok more) = ap (saying t second) (sym (append_assoc events (event ∷ []) more))
after_events-first events t second event (Err fault) = refl

-- the content, by the answer of the first line
abbrev first_said : ℕ → List SetEvent → PartialSettings → Option ℕ → List (ℕ × Text) → Result SetEvent ScriptFault
    → Result ScriptContent ScriptFault
first_said n events t second ls r = after_events events (script_content t second (all_ok (r ∷ map (λ l. event_of n l.0 l.1) ls)))

pub event_taken : (n k : ℕ) (x : Text) (events : List SetEvent) (t : PartialSettings) (second : Option ℕ) (event : SetEvent)
    → event_of n k x ≡ Ok event
    → (ls : List (ℕ × Text)) → after_events events (script_content t second (events_of_lines n ((k, x) ∷ ls))) ≡ after_events
    (events ++ event ∷ []) (script_content t second (events_of_lines n ls))
event_taken n k x events t second event e ls = ap (first_said n events t second ls) e
    ∙ after_events-first events t second event (events_of_lines n ls)

pub event_fault : (n k : ℕ) (x : Text) (events : List SetEvent) (t : PartialSettings) (second : Option ℕ) (fault : ScriptFault)
    → event_of n k x ≡ Err fault
    → (ls : List (ℕ × Text)) → after_events events (script_content t second (events_of_lines n ((k, x) ∷ ls))) ≡ Err fault
event_fault n k x events t second fault e ls = ap (first_said n events t second ls) e

-- ---- settings

-- the content, by the answer of the first line
abbrev first_setting : ℕ → ℕ → Text → PartialSettings → ℕ → List (ℕ × Text) → Option (Result PartialSettings ScriptFault)
    → Result ScriptContent ScriptFault
first_setting n k x t second ls o = by_setting o (λ later. settings_then_events n later second ls)
    (script_content t (Some second) (events_of_lines n ((k, x) ∷ ls)))

pub setting_taken : (n k : ℕ) (x : Text) (t later : PartialSettings) (second : ℕ) → setting_of n k t x ≡ Some (Ok later)
    → (ls : List (ℕ × Text)) → settings_then_events n t second ((k, x) ∷ ls) ≡ settings_then_events n later second ls
setting_taken n k x t later second e ls = ap (first_setting n k x t second ls) e

pub setting_fault : (n k : ℕ) (x : Text) (t : PartialSettings) (second : ℕ) (fault : ScriptFault) → setting_of n k t x ≡ Some (Err fault)
    → (ls : List (ℕ × Text)) → settings_then_events n t second ((k, x) ∷ ls) ≡ Err fault
setting_fault n k x t second fault e ls = ap (first_setting n k x t second ls) e

pub setting_none : (n k : ℕ) (x : Text) (t : PartialSettings) (second : ℕ) → setting_of n k t x ≡ None
    → (ls : List (ℕ × Text)) → settings_then_events n t second ((k, x) ∷ ls) ≡ script_content t (Some second)
    (events_of_lines n ((k, x) ∷ ls))
setting_none n k x t second e ls = ap (first_setting n k x t second ls) e

-- ---- headings

pub first_heading : (n k : ℕ) (x : Text) (t : PartialSettings) → bytes_eq x heading ≡ true → (ls : List (ℕ × Text))
    → content_of_lines n t ((k, x) ∷ ls) ≡ script_content t None (events_of_lines n ls)
first_heading n k x t e ls =
    ap (λ b. cond b (script_content t None (events_of_lines n ls))
    (cond (bytes_eq x second_heading) (settings_then_events n t k ls) (script_content t None (events_of_lines n ((k, x) ∷ ls))))) e

pub later_heading : (n k : ℕ) (x : Text) (t : PartialSettings) → bytes_eq x heading ≡ false → bytes_eq x second_heading ≡ true
    → (ls : List (ℕ × Text)) → content_of_lines n t ((k, x) ∷ ls) ≡ settings_then_events n t k ls
later_heading n k x t e h ls =
    ap (λ b. cond b (script_content t None (events_of_lines n ls))
    (cond (bytes_eq x second_heading) (settings_then_events n t k ls) (script_content t None (events_of_lines n ((k, x) ∷ ls))))) e
    ∙ ap (λ b. cond b (settings_then_events n t k ls) (script_content t None (events_of_lines n ((k, x) ∷ ls)))) h

pub no_heading : (n k : ℕ) (x : Text) (t : PartialSettings) → bytes_eq x heading ≡ false → bytes_eq x second_heading ≡ false
    → (ls : List (ℕ × Text)) → content_of_lines n t ((k, x) ∷ ls) ≡ script_content t None (events_of_lines n ((k, x) ∷ ls))
no_heading n k x t e h ls =
    ap (λ b. cond b (script_content t None (events_of_lines n ls))
    (cond (bytes_eq x second_heading) (settings_then_events n t k ls) (script_content t None (events_of_lines n ((k, x) ∷ ls))))) e
    ∙ ap (λ b. cond b (settings_then_events n t k ls) (script_content t None (events_of_lines n ((k, x) ∷ ls)))) h

-- ---- the whole

pub script_form-content_of_lines : (bytes : Text) (n : ℕ)
    → content_of_lines n no_settings (numbered_lines 1 (lines bytes)) ≡ script_form bytes n
unfolding script_form
script_form-content_of_lines bytes n = refl
