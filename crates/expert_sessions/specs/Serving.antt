-- Many sessions at one gate, each of one expert over one end.
use Rattle.std.specs.Prelude.{◌≡◌, ◌<◌, ◌+◌, ℕ, suc, Option, None, List, [], ◌∷◌}
use Rattle.fca_model.specs.Tables.{Text, NamedContext}
use Rattle.fca_model.specs.Exploration.{SetEntry, own}
use Rattle.explore_state.specs.History.{Opening}
use Rattle.turn_lock.specs.Passes.{Lock, Belongs, IsFresh, badge}
use Rattle.expert_sessions.specs.Moves.{DeskProgress, end_state_of}
use Rattle.expert_sessions.specs.Order.{ReadsWhereAnswered}
use Rattle.expert_sessions.specs.Talks.{HasTalked}
use Rattle.expert_sessions.specs.declared.ended.Ended.{Ended}
use Rattle.expert_sessions.specs.declared.seats.SessionSeat.{SessionSeat}

-- the seat's pass is one of this gate's, and has made no turn
abbrev pub IsReady : {E : Type 0} → Lock Opening → SessionSeat E → Type 0
IsReady gate seat = Belongs gate seat.pass × IsFresh seat.pass

-- sessions of at most so many lines over the table suit the gate: its exploration has as many attributes, and a pass may make more
-- turns than a session takes
pub record Suits (gate : Lock Opening) (t : NamedContext) (lines : ℕ) : Type 0 where
  pub width : gate.base.table.context.width ≡ t.context.width
  pub turns : lines + 1 < gate.turns

-- a desk of which only the entries are shown
abbrev pub entries_alone : List SetEntry → DeskProgress
entries_alone entries = record { entries = entries; left = None }

-- over ends that show what is left and what is held, how often they were read, if they count that, and their counts of faults
module _ {E : Type 0} (left held : E → Option Text) (reads : E → Option ℕ) (read_faults write_faults : E → ℕ) (t : NamedContext)
    (lines : ℕ) where
  -- the expert of the seat's pass has talked over the seat's end, and never ran out of turns, which are not shown; the pass has the
  -- entries of the talk; and the end was read only where each whole line was answered
  pub record HasSat (old new : SessionSeat E) : Type 0 where
    pub same : badge new.pass ≡ badge old.pass
    pub talk : HasTalked t new.pass.number lines (end_state_of left held read_faults write_faults old.end)
        (end_state_of left held read_faults write_faults new.end)
        (entries_alone []) (entries_alone new.pass.own) new.ended
    pub order : ReadsWhereAnswered left held reads read_faults write_faults t new.pass.number old.end new.end

  -- expert k has talked over the first end, expert k + 1 over the next, and so on; their entries are their own ones of the
  -- history, none of them ran out of turns, and each end was read only where each whole line was answered
  abbrev pub EachTalks : List SetEntry → ℕ → List E → List E → List Ended → Type 0
  EachTalks H k [] [] [] = Unit {0}
  EachTalks H k (a ∷ olds) (b ∷ news) (ended ∷ more) =
      HasTalked t k lines (end_state_of left held read_faults write_faults a) (end_state_of left held read_faults write_faults b)
      (entries_alone []) (entries_alone (own H k)) ended
      × ReadsWhereAnswered left held reads read_faults write_faults t k a b
      × EachTalks H (suc k) olds news more
  EachTalks H k _ _ _ = ⊥
