-- The text of a command that explores tells of the exploration of the command's table: the crate of the command says which exploration it
-- is and what its text spells, and the laws of texts and of replays say the rest.
use Rattle.std.proofs.Common.{◌≡◌, ◌∙◌, ◌++◌, [], ℕ, List, Option, map, length, refl, sym, ap, subst, append_assoc, append-nil}
use Rattle.fca_model.specs.Tables.{Text, NamedContext}
use Rattle.fca_model.specs.Implications.{Rule}
use Rattle.fca_model.specs.Questions.{open_questions}
use Rattle.fca_model.specs.Exploration.{State, Settings, SetEntry, opening, open_in, rules_of, events_of}
use Rattle.fca_model.proofs.CourseLemmas.{run_settings}
use Rattle.fca_io.specs.Links.{Ends}
use Rattle.explore_state.specs.History.{Opening}
use Rattle.basis_report.specs.Explorations.{explore_text, state_of_history, text_before_basis, Spells}
use Rattle.basis_report.specs.Conflicts.{conflicts_text}
use Rattle.basis_report.specs.Sessions.{sessions_text}
use Rattle.basis_report.proofs.OrderLemmas.{finished_text}
use Rattle.command_io.specs.Readings.{Reading, then, MayRead}
use Rattle.command_io.specs.Readings.Reading.{Read}
use Rattle.command_io.specs.Known.{Start}
use Rattle.command_io.specs.Endings.{Output}
use Rattle.command_io.specs.Explorations.{Exploration, opening_of, last_state, last_open, IsExplored}
use Rattle.command_io.proofs.ReadingLemmas.{read_after}
use Rattle.replay_command.specs.Replayed.{MayReplay}
use Rattle.replay_command.proofs.FedBackLemmas.{opened-respecting, fed_back}
use Rattle.explore_command.specs.Starts.{ExploreStart}
use Rattle.explore_command.specs.Explored.{dropped_in, exploration_of_start, MayExplore}
use Rattle.serve_command.specs.Openings.{opening_by}
use Rattle.serve_command.specs.Served.{exploration_of_opening, ended_words, MayServe}
use Rattle.fca_run.specs.Courses.{known_basis_lines, TellsExploration}
use Rattle.fca_run.specs.Calls.{Sides}

-- where no question is open at its end, the text ends with the basis, and then come the lines behind
ends-with-basis : (r : Exploration) (later text : Text) → IsExplored r
    → text ≡ explore_text r.opening.table r.opening.settings r.journal ++ later → last_open r ≡ []
    → text ≡ text_before_basis r.opening.table r.opening.settings r.journal ++ (known_basis_lines r ++ later)
ends-with-basis r later text explored printed none =
    let t : NamedContext = r.opening.table in
    let s : Settings = r.opening.settings in
    let now : State = state_of_history t s r.journal in
    let settled : now.settings.known ≡ s.known = ap (λ (x : Settings). x.known)
    (run_settings (opening t.context t.objects s) (events_of r.journal)) in
    let done : open_in now ≡ [] = ap (λ S. open_questions S now.context now.accepted) settled ∙ none in
    printed ∙ ap (λ l. l ++ later) (finished_text t s r.journal (opened-respecting r explored) explored.legal done)
    ∙ append_assoc (text_before_basis t s r.journal) (known_basis_lines r) later

tells : (opened : Reading Opening) (r : Exploration) (later text : Text) → MayRead opened r.opening
    → text ≡ explore_text r.opening.table r.opening.settings r.journal ++ later
    → Spells r.opening.table r.opening.settings r.journal text → IsExplored r → TellsExploration opened text
tells opened r later text may printed spells explored = record {
  exploration = r;
  opening = may;
  later = later;
  printed = printed;
  spells = spells;
  explored = explored;
  basis = λ none. ends-with-basis r later text explored printed none;
  fed_back = λ short. fed_back r text explored spells short;
}

-- ---- each command

-- by oracles of experts' tables
pub explore-tells : (reading : Reading ExploreStart) (output : Output) → MayExplore reading output
    → TellsExploration (then reading (λ p. Read (opening_of p.table (length p.expert_tables) p.settings))) output.text
explore-tells reading output explored =
    let p = explored.start in
    let is = explored.is in
    tells (then reading (λ q. Read (opening_of q.table (length q.expert_tables) q.settings))) (exploration_of_start p is.history)
    (conflicts_text p.table.attributes (rules_of (last_state (exploration_of_start p is.history))) (dropped_in is.history 1 p.expert_tables))
    output.text
    (read_after reading p (λ q. Read (opening_of q.table (length q.expert_tables) q.settings))
    (opening_of p.table (length p.expert_tables) p.settings) explored.read refl) is.whole is.spells is.explored

-- by a script
pub replay-tells : (reading : Reading Exploration) (output : Output) → MayReplay reading output
    → TellsExploration (then reading (λ r. Read r.opening)) output.text
replay-tells reading output replay =
    let r = replay.made in
    let text : Text = explore_text r.opening.table r.opening.settings r.journal in
    let is : output.text ≡ text = ap (λ (o : Output). o.text) replay.whole in
    tells (then reading (λ q. Read q.opening)) r [] output.text (read_after reading r (λ q. Read q.opening) r.opening replay.read refl)
    (is ∙ sym (append-nil text))
    (subst (Spells r.opening.table r.opening.settings r.journal) (sym is) replay.is.spells) replay.is.explored

-- by experts at the ends of a link
module _ {E : Type 0} (end_sides : Sides E) where
  pub serve-tells : (reading : Reading Start) (experts holders : ℕ) (old new : Option (Ends E)) (output : Output)
      → MayServe end_sides.left end_sides.held end_sides.reads end_sides.read_faults end_sides.write_faults reading experts holders old new output
      → TellsExploration (then reading (λ start. Read (opening_by experts holders start))) output.text
  serve-tells reading experts holders old new output serve =
      let o : Opening = opening_by experts holders serve.0 in
      let is = serve.2.is in
      tells (then reading (λ start. Read (opening_by experts holders start))) (exploration_of_opening o is.history)
      (sessions_text (map ended_words is.ended)) output.text
      (read_after reading serve.0 (λ start. Read (opening_by experts holders start)) o serve.1 refl) is.text is.spells is.explored
