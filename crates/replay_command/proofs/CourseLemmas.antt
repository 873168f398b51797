-- The journal of events that may be applied is a legal history, and so what they make is an exploration of which all is promised.
use Rattle.std.proofs.Common.{◌≡◌, ◌&&◌, [], ◌∷◌, List, Bool, true, refl}
use Rattle.std.proofs.lemmas.Bool.{and_parts}
use Rattle.std.specs.List.{list_all}
use Rattle.std.specs.Prelude.{None}
use Rattle.fca_model.specs.declared.TheConstants.{MAX_EXPERTS}
use Rattle.fca_model.specs.Tables.{NamedContext}
use Rattle.fca_model.specs.Exploration.{State, Settings, SetEvent, is_expert, expert_of, has_row_of_width, journal_of}
use Rattle.fca_model.proofs.RunLemmas.{legal_journal}
use Rattle.explore_state.specs.History.{opening_state}
use Rattle.implication_closure.specs.Closing.{HaveWidth}
use Rattle.explore_state.specs.Faults.{first_break}
use Rattle.explore_state.proofs.OpenLemmas.{unbroken_rows}
use Rattle.expert_scripts.specs.Scripts.{may_apply}
use Rattle.command_io.specs.Explorations.{IsExplored}
use Rattle.command_io.proofs.CourseLemmas.{legal-course}
use Rattle.replay_command.specs.Replayed.{replay_opening, exploration_by}

both-all : {X : Type 0} (p q : X → Bool) (xs : List X) → list_all (λ x. p x && q x) xs ≡ true
    → (list_all p xs ≡ true) × (list_all q xs ≡ true)
both-all p q [] h = (refl, refl)
both-all p q (x ∷ xs) h =
    let parts = and_parts (p x && q x) (list_all (λ y. p y && q y) xs) h in
    let here = and_parts (p x) (q x) parts.0 in
    let rest = both-all p q xs parts.1 in
    (rw here.0 rest.0, rw here.1 rest.1)

pub explored-course : (table : NamedContext) (settings : Settings) (events : List SetEvent)
    → first_break settings.known 0 table.context.rows ≡ None
    → HaveWidth table.context.width settings.known → list_all (may_apply table.context.width) events ≡ true
    → IsExplored (exploration_by table settings events)
explored-course table settings events unbroken wide may =
    let s : State = opening_state (replay_opening table settings) in
    let parts = both-all (λ event. is_expert (expert_of event)) (has_row_of_width table.context.width) events may in
    legal-course table MAX_EXPERTS settings (journal_of s events) refl (unbroken_rows settings.known 0 table.context.rows unbroken) wide
    (legal_journal s events parts.0 parts.1)
