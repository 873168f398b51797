-- One event more on the journal of an exploration that was opened with a table.
use Rattle.std.proofs.Common.{◌≡◌, ◌++◌, ◌∷◌, [], List, ℕ, Option, Some, None, Result, Ok, Err, inl, inr, true, nat_le, length, refl, sym}
use Rattle.std.proofs.Common.{ap, ◌∙◌, subst, arith}
use Rattle.std.proofs.lemmas.Bool.{and_parts, leb-true}
use Rattle.std.specs.Prelude.{IfOk, OnOk}
use Rattle.fca_model.specs.Tables.{Text, NamedContext}
use Rattle.fca_model.specs.declared.TheConstants.{MAX_EXPERTS}
use Rattle.fca_model.specs.Exploration.{State, Settings, SetEvent, SetReply, SetEntry, is_expert, expert_of, has_row_of_width, reply_to}
use Rattle.fca_model.specs.Exploration.{state_after, journal_of, events_of}
use Rattle.fca_model.proofs.RunLemmas.{journal_of-push, events_of-journal_of}
use Rattle.explore_state.specs.History.{Opening, ExploreModel, opening_state, state_of, Admits, IsStep}
use Rattle.expert_scripts.specs.Scripts.{ScriptContent, may_apply}
use Rattle.command_io.specs.Readings.{Reading, MayRead}
use Rattle.command_io.specs.Causes.{IsScriptStop}
use Rattle.command_io.specs.Endings.{Output, IsFile, IsOfFile}
use Rattle.command_io.specs.Explorations.{Exploration, exploration_of, IsExplored}
use Rattle.command_io.specs.declared.stop.Stop.{Stop}
use Rattle.command_io.specs.declared.stop.Stop.TheVariants.{TooLong, NoScript, ReadFault, Memory}
use Rattle.replay_command.specs.Replayed.{replay_opening, exploration_by, exploration_output, SpellsItself, MayReplay, IsSettingsStop}
use Rattle.replay_command.specs.Replayed.{IsInputStop}

-- the parts of an exploration that is as far as these events
opened : (table : NamedContext) (settings : Settings) (events : List SetEvent) (h : ExploreModel)
    → exploration_of h ≡ exploration_by table settings events → h.opening ≡ replay_opening table settings
opened table settings events h e = ap (λ (r : Exploration). r.opening) e

logged : (table : NamedContext) (settings : Settings) (events : List SetEvent) (h : ExploreModel)
    → exploration_of h ≡ exploration_by table settings events
    → h.journal ≡ journal_of (opening_state (replay_opening table settings)) events
logged table settings events h e = ap (λ (r : Exploration). r.journal) e

state_of-explored : (table : NamedContext) (settings : Settings) (events : List SetEvent) (h : ExploreModel)
    → exploration_of h ≡ exploration_by table settings events
    → state_of h ≡ state_after (opening_state (replay_opening table settings)) events
state_of-explored table settings events h e =
    ap (λ (r : Exploration). state_after (opening_state r.opening) (events_of r.journal)) e
    ∙ ap (state_after (opening_state (replay_opening table settings)))
    (events_of-journal_of (opening_state (replay_opening table settings)) events)

exploration_of-parts : (h : ExploreModel) (o : Opening) (H : List SetEntry) → h.opening ≡ o → h.journal ≡ H
    → exploration_of h ≡ record { opening = o; journal = H }
exploration_of-parts h o H opening journal = cc

pub exploration_of-start : (table : NamedContext) (settings : Settings) (h : ExploreModel) → h.opening ≡ replay_opening table settings → h.journal ≡ []
    → exploration_of h ≡ exploration_by table settings []
unfolding journal_of
exploration_of-start table settings h opening journal = exploration_of-parts h (replay_opening table settings) [] opening journal

pub exploration_of-push : (table : NamedContext) (settings : Settings) (events : List SetEvent) (old new : ExploreModel) (event : SetEvent)
    (reply : SetReply)
    → exploration_of old ≡ exploration_by table settings events → IsStep old new event reply
    → exploration_of new ≡ exploration_by table settings (events ++ event ∷ [])
exploration_of-push table settings events old new event reply e step =
    let s : State = opening_state (replay_opening table settings) in
    let right : reply ≡ reply_to (state_after s events) event = step.reply
    ∙ ap (λ (t : State). reply_to t event) (state_of-explored table settings events old e) in
    let entry : List SetEntry → SetReply → List SetEntry = λ H r. H ++ record { event = event; reply = r } ∷ [] in
    exploration_of-parts new (replay_opening table settings) (journal_of s (events ++ event ∷ []))
    (step.opening ∙ opened table settings events old e)
    (step.journal ∙ ap (λ H. entry H reply) (logged table settings events old e) ∙ ap (λ r. entry (journal_of s events) r) right
    ∙ sym (journal_of-push s events event))

pub exploration_of-admits : (table : NamedContext) (settings : Settings) (events : List SetEvent) (h : ExploreModel) (event : SetEvent)
    → exploration_of h ≡ exploration_by table settings events → may_apply table.context.width event ≡ true → Admits h.opening event
exploration_of-admits table settings events h event e may =
    let parts = and_parts (is_expert (expert_of event)) (has_row_of_width table.context.width event) may in
    let range = and_parts (nat_le 1 (expert_of event)) (nat_le (expert_of event) MAX_EXPERTS) parts.0 in
    let P : Opening → Type 0 = λ o. Admits o event in
    subst P (sym (opened table settings events h e)) (record { first = leb-true _ _ range.0; last = leb-true _ _ range.1; wide = parts.1 })

pub no_items : {X : Type 0} (l : List X) → length l ≡ 0 → l ≡ []
no_items [] h = refl
no_items (x ∷ xs) h = absurd (omega arith)

-- ---- the output

pub MayReplay-made : (reading : Reading Exploration) (made : Exploration) (r : Result Output Stop) → MayRead reading made → IsExplored made
    → IfOk r (λ output. output ≡ exploration_output made) → OnOk r (SpellsItself made) → IfOk r (MayReplay reading)
MayReplay-made reading made (Ok output) may course whole spells =
    record { made = made; read = may; is = record { explored = course; spells = spells }; whole = whole }
MayReplay-made reading made (Err stop) may course whole spells = tt

-- ---- the stop of an input is of no file

script-of_input : (n : ℕ) (input : Option Text) (rose : Type 0) (s : Stop) → IsScriptStop n input rose s → IsOfFile s → ⊥
script-of_input n input rose (ReadFault at) is file = subst IsFile is.0 file
script-of_input n input rose (TooLong at) is file = subst IsFile is.0 file
script-of_input n input rose (NoScript fault) is file = file
script-of_input n input rose Memory is file = file
script-of_input n input rose _ is file = is

settings-of_input : (known : Option Text) (table : NamedContext) (said : ScriptContent) (s : Stop) → IsSettingsStop known table said s → IsOfFile s
    → ⊥
settings-of_input None table said s is file = subst IsOfFile is.2 file
settings-of_input (Some known) table said s is file = subst IsOfFile is.2 file

pub stop-of_input : (known : Option Text) (table : NamedContext) (input : Option Text) (rose : Type 0) (s : Stop)
    → IsInputStop known table input rose s → IsOfFile s → ⊥
stop-of_input known table input rose s (inl is) file = script-of_input table.context.width input rose s is file
stop-of_input known table input rose s (inr later) file = settings-of_input known table later.0 s later.2 file
