-- Explorations by oracles: what each did in the one history.
use Rattle.std.specs.Prelude.{◌≡◌, ℕ, ◌+◌, ◌-◌, ◌*◌, ◌≤◌, ◌<◌, ◌⊎◌, ◌↔◌, Bool, true, false, Option, Some, List, [], All, map, length}
use Rattle.std.specs.Prelude.{slice_get}
use Rattle.fca_model.specs.declared.TheConstants.{MAX_OBJECTS}
use Rattle.fca_model.specs.Context.{Context}
use Rattle.fca_model.specs.Pseudo.{basis_known}
use Rattle.fca_model.specs.Invariant.{SameMembers}
use Rattle.fca_model.specs.Exploration.{SetEntry, IsLegal, own}
use Rattle.explore_state.specs.History.{Opening, ExploreModel, opening_state, state_of, open_of}
use Rattle.turn_lock.specs.Passes.{Lock}
use Rattle.oracle_expert.specs.Counts.{answers_recorded_in, dropped_count}
use Rattle.oracle_expert.specs.Oracles.{Recall, no_conflict}
use Rattle.oracle_expert.specs.Runs.{IsOracleFront, ends_done, conflicts_of}
use Rattle.expert_panel.specs.declared.seat.Seat.{Seat}
use Rattle.expert_panel.specs.declared.end.SeatEnd.{SeatEnd}
use Rattle.expert_panel.specs.declared.end.SeatEnd.TheVariants.{Spent, Memory}

-- Of the history H: the entries of expert e are what is due for an oracle of its table, and the rows that it dropped are theirs. Its last
-- reply is Done; or it is not, and there are as many entries as the expert has turns
pub record IsOraclesShare (turns : ℕ) (H : List SetEntry) (e : ℕ) (oracle : Recall) : Type 0 where
  pub front : IsOracleFront oracle.table e (own H e)
  pub conflicts : oracle.conflicts ≡ conflicts_of oracle.table (own H e)
  pub end : (ends_done (own H e) ≡ true) ⊎ ((ends_done (own H e) ≡ false) × (length (own H e) ≡ turns))

-- P holds of each, with its number; the first has the number 1
abbrev pub EachNumbered : {X : Type 0} → (ℕ → X → Type 0) → List X → Type 0
EachNumbered P xs = (k : ℕ) (x : _) → slice_get xs k ≡ Some x → P (k + 1) x

-- the seat made all its turns before it was done
abbrev pub ended_spent : Option SeatEnd → Bool
ended_spent (Some Spent) = true
ended_spent _ = false

-- the seat ran out of memory
abbrev pub is_out_of_memory : Option SeatEnd → Bool
is_out_of_memory (Some Memory) = true
is_out_of_memory _ = false

-- The exploration by oracles at the gate, as it ended with these oracles, and with one spent or none
pub record HasEnded (gate : Lock Opening) (before : List Recall) (explore : ExploreModel) (oracles : List Recall)
    (some_spent : Bool) : Type 0 where
  pub opening : explore.opening ≡ gate.base
  pub is_legal : IsLegal (opening_state gate.base) explore.journal
  pub tables : map (λ oracle. oracle.table) oracles ≡ map (λ oracle. oracle.table) before
  pub shares : EachNumbered (IsOraclesShare gate.turns explore.journal) oracles
  pub others : (e : ℕ) → (e ≡ 0) ⊎ (length before < e) → own explore.journal e ≡ []
  pub spent : (some_spent ≡ true) ↔ ((e : ℕ) × (1 ≤ e) × (e ≤ length before) × (ends_done (own explore.journal e) ≡ false))
  pub finished : some_spent ≡ false → open_of explore ≡ []

-- the oracle's table has no more rows than a table may have
abbrev pub HasFewRows : Recall → Type 0
HasFewRows oracle = length oracle.table.context.rows ≤ MAX_OBJECTS

-- two turns for each answer that was recorded in the history, one for each row that the oracle dropped, and one more
abbrev pub most_turns : List SetEntry → Recall → ℕ
most_turns H oracle = 2 * answers_recorded_in H + dropped_count oracle.conflicts + 1

-- the entries of expert e are no more
abbrev pub IsWithinMostTurns : List SetEntry → ℕ → Recall → Type 0
IsWithinMostTurns H e oracle = length (own H e) ≤ most_turns H oracle

-- the seat made at most so many turns; and one more if memory ran out in its last turn
abbrev pub HasMadeAtMost : ℕ → Seat Recall → Seat Recall → Type 0
HasMadeAtMost most old new =
    (new.pass.made ≤ old.pass.made + most)
    ⊎ ((new.ended ≡ Some Memory) × (new.pass.made ≤ old.pass.made + most + 1))

-- nor are the turns that the seat made
abbrev pub SeatsTurns : List SetEntry → Seat Recall → Seat Recall → Type 0
SeatsTurns H old new = HasMadeAtMost (most_turns H new.expert) old new

-- two turns for each answer that was recorded in the history, one for each row that the oracle dropped from one to the other, and one more
abbrev pub most_turns_between : List SetEntry → Recall → Recall → ℕ
most_turns_between H old new = 2 * answers_recorded_in H + (dropped_count new.conflicts - dropped_count old.conflicts) + 1

-- all rows of the oracle's table have one width
abbrev pub HasEvenRows : Recall → Type 0
HasEvenRows oracle = All (λ row. length row ≡ oracle.table.context.width) oracle.table.context.rows

-- What comes of oracles of tables with the intents of one context C: none dropped a row; and if none was spent, what was accepted is the
-- basis of C beside what
-- is known, and so is the basis of the recorded rows
pub record HasAgreed (C : Context) (explore : ExploreModel) (oracles : List Recall) (spent : Bool) : Type 0 where
  pub kept : All (λ oracle. oracle.conflicts ≡ no_conflict oracle.table) oracles
  pub accepted : spent ≡ false → SameMembers (state_of explore).accepted (basis_known explore.opening.settings.known C)
  pub basis : spent ≡ false → basis_known explore.opening.settings.known (state_of explore).context
      ≡ basis_known explore.opening.settings.known C
