-- What `explore` writes: the text of one legal history, which the oracles of the experts' tables made, and the conflicts in which rows of
-- theirs were dropped.
use Rattle.std.specs.Prelude.{◌≡◌, ◌↔◌, ◌⊎◌, ◌≤◌, ◌<◌, ◌+◌, ◌*◌, ℕ, Bool, true, false, cond, List, [], ◌∷◌, ◌++◌, length, map, All}
use Rattle.fca_model.specs.Context.{Context}
use Rattle.fca_model.specs.Tables.{Text, NamedContext}
use Rattle.fca_model.specs.Implications.{Rule}
use Rattle.fca_model.specs.Pseudo.{basis_known}
use Rattle.fca_model.specs.Invariant.{rows_respect}
use Rattle.fca_model.specs.Exploration.{SetEntry, rules_of, own, IsLegal}
use Rattle.explore_state.specs.History.{ExploreModel, opening_state, state_of, open_of}
use Rattle.fca_model.specs.declared.TheConstants.{MAX_SURVEYED, MAX_TURNS}
use Rattle.fca_model.specs.declared.Event.TheVariants.{Draw}
use Rattle.oracle_expert.specs.Counts.{answers_recorded_in, dropped_count}
use Rattle.oracle_expert.specs.Intents.{HasIntentsOf, are_intents}
use Rattle.oracle_expert.specs.Oracles.{Recall, Conflicts}
use Rattle.oracle_expert.specs.Runs.{IsOracleFront, ends_done, conflicts_of}
use Rattle.expert_panel.specs.Explorations.{IsOraclesShare, EachNumbered, HasAgreed}
use Rattle.expert_scripts.specs.Transcripts.{transcript}
use Rattle.basis_report.specs.Explorations.{recorded_section, accepted_section, open_section, explore_text, basis_lines, Spells}
use Rattle.basis_report.specs.Conflicts.{conflicts_section, conflicts_text}
use Rattle.command_io.specs.Endings.{Output}
use Rattle.command_io.specs.Readings.{Reading, MayRead}
use Rattle.command_io.specs.declared.output.Ending.{Ending}
use Rattle.command_io.specs.declared.output.Ending.TheVariants.{Finished, Spent}
use Rattle.command_io.specs.Explorations.{Exploration, opening_of, last_state, last_open, IsExplored}
use Rattle.explore_command.specs.Starts.{ExploreStart, MayOpen}

-- Of the history H, the entries of expert e are what is due for an oracle of D. Its last reply is Done; or it is not, and it has taken all
-- its turns. It has taken at most two for each answer that was recorded, one for each row that it dropped, and one more; and between two of
-- its draws an answer was recorded
pub record IsShare (H : List SetEntry) (e : ℕ) (D : NamedContext) : Type 0 where
  pub front : IsOracleFront D e (own H e)
  pub end : (ends_done (own H e) ≡ true) ⊎ ((ends_done (own H e) ≡ false) × (length (own H e) ≡ MAX_TURNS))
  pub within : length (own H e) ≤ 2 * answers_recorded_in H + dropped_count (conflicts_of D (own H e)) + 1
  pub apart : (before between after : List SetEntry) (first second : SetEntry) → H ≡ before ++ (first ∷ between ++ second ∷ after)
      → first.event ≡ Draw e → second.event ≡ Draw e → 1 ≤ answers_recorded_in between

-- the tables of the experts from number e on, each with its rows that were dropped in the history
abbrev pub dropped_in : List SetEntry → ℕ → List NamedContext → List (NamedContext × Conflicts)
dropped_in H e [] = []
dropped_in H e (D ∷ experts) = (D, conflicts_of D (own H e)) ∷ dropped_in H (e + 1) experts

-- the exploration of the start's table that has this history
abbrev pub exploration_of_start : ExploreStart → List SetEntry → Exploration
exploration_of_start start H = record { opening = opening_of start.table (length start.expert_tables) start.settings; journal = H }

-- its text, and the conflicts
abbrev pub explored_text : ExploreStart → List SetEntry → Text
explored_text start H =
    explore_text start.table start.settings H
    ++ conflicts_text start.table.attributes (rules_of (last_state (exploration_of_start start H))) (dropped_in H 1 start.expert_tables)

-- what its text says before the open questions
abbrev pub recorded_text : ExploreStart → List SetEntry → Text
recorded_text start H =
    transcript start.table.attributes start.settings H ++ (recorded_section H
    ++ accepted_section start.table.attributes (length start.settings.known) (last_state (exploration_of_start start H)).accepted)

-- `# open 0`; then the lines of the basis; then `# conflicts 0`
abbrev pub basis_alone : List Text → List Rule → Text
basis_alone attributes J =
    open_section attributes [] ++ (basis_lines attributes J ++ conflicts_section attributes J [])

-- The text spells the start's settings and one legal history, which has no entries but those of the experts' oracles. If one of them used
-- up its turns, the exploration is spent, or else no question is open at its end. With at most MAX_SURVEYED attributes it is never spent.
-- If all experts' tables have the intents of one context C, each row of the start's table is such an intent, and each row of C respects
-- what is known, the text ends with the basis of C beside what is known, in lectic order, and no conflict
pub record IsExploredText (start : ExploreStart) (text : Text) (some_spent : Bool) : Type 0 where
  pub history : List SetEntry
  pub whole : text ≡ explored_text start history
  pub spells : Spells start.table start.settings history text
  pub explored : IsExplored (exploration_of_start start history)
  pub shares : EachNumbered (IsShare history) start.expert_tables
  pub others : (e : ℕ) → (e ≡ 0) ⊎ (length start.expert_tables < e) → own history e ≡ []
  pub spent : (some_spent ≡ true) ↔ ((e : ℕ) × (1 ≤ e) × (e ≤ length start.expert_tables) × (ends_done (own history e) ≡ false))
  pub finished : some_spent ≡ false → last_open (exploration_of_start start history) ≡ []
  pub unspent : start.table.context.width ≤ MAX_SURVEYED → some_spent ≡ false
  pub agreed : (C : Context) → All (λ D. HasIntentsOf C D.context) start.expert_tables → are_intents C start.table.context.rows ≡ true
      → rows_respect start.settings.known C ≡ true → some_spent ≡ false
      → text ≡ recorded_text start history ++ basis_alone start.table.attributes (basis_known start.settings.known C)

-- ---- the exploration as it ended

-- an oracle's table with its conflicts
abbrev pub with_conflicts : Recall → NamedContext × Conflicts
with_conflicts oracle = (oracle.table, oracle.conflicts)

-- the text of an exploration, and the conflicts of its oracles
abbrev pub text_with_conflicts : ExploreModel → List Recall → Text
text_with_conflicts explore oracles = explore_text explore.opening.table explore.opening.settings explore.journal
    ++ conflicts_text explore.opening.table.attributes (rules_of (state_of explore)) (map with_conflicts oracles)

-- an exploration of the start's table by oracles of the experts' tables, as it ended
pub record HasExplored (start : ExploreStart) (explore : ExploreModel) (oracles : List Recall) (some_spent : Bool) : Type 0 where
  pub may : MayOpen start.table start.settings
  pub opening : explore.opening ≡ opening_of start.table (length start.expert_tables) start.settings
  pub legal : IsLegal (opening_state explore.opening) explore.journal
  pub tables : map (λ oracle. oracle.table) oracles ≡ start.expert_tables
  pub shares : EachNumbered (IsOraclesShare MAX_TURNS explore.journal) oracles
  pub others : (e : ℕ) → (e ≡ 0) ⊎ (length start.expert_tables < e) → own explore.journal e ≡ []
  pub spent : (some_spent ≡ true) ↔ ((e : ℕ) × (1 ≤ e) × (e ≤ length start.expert_tables) × (ends_done (own explore.journal e) ≡ false))
  pub finished : some_spent ≡ false → open_of explore ≡ []
  pub unspent : start.table.context.width ≤ MAX_SURVEYED → some_spent ≡ false
  pub agreed : (C : Context) → All (λ D. HasIntentsOf C D.context) start.expert_tables → are_intents C start.table.context.rows ≡ true
      → rows_respect start.settings.known C ≡ true → HasAgreed C explore oracles some_spent

-- ---- the output

-- the ending of the text; `spent` says whether an expert used up its turns
abbrev pub explored_ending : Bool → Ending
explored_ending spent = cond spent Spent Finished

-- an output for the start that may have been read
pub record MayExplore (reading : Reading ExploreStart) (output : Output) : Type 0 where
  pub start : ExploreStart
  pub read : MayRead reading start
  pub spent : Bool
  pub is : IsExploredText start output.text spent
  pub ending : output.ending ≡ explored_ending spent
