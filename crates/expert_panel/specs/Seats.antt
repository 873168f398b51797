-- Seats of a panel: what each does in one call.
use Rattle.std.specs.Prelude.{◌≡◌, ℕ, ◌<◌, ◌⊎◌, true, false, Some, List}
use Rattle.fca_model.specs.Implications.{Rule}
use Rattle.fca_model.specs.Exploration.{SetReply, SetEntry}
use Rattle.explore_state.specs.History.{Opening}
use Rattle.turn_lock.specs.Passes.{PassModel, Lock, Belongs}
use Rattle.oracle_expert.specs.declared.expert.Answer.{Answer}
use Rattle.oracle_expert.specs.Runs.{SeatRun, UnansweredRun, ends_done}
use Rattle.expert_panel.specs.declared.seat.Seat.{Seat}
use Rattle.expert_panel.specs.declared.end.SeatEnd.{SeatEnd}
use Rattle.expert_panel.specs.declared.end.SeatEnd.TheVariants.{Done, Spent, Memory}
use Rattle.expert_panel.specs.Passes.{HasMade, TookTurns, TookOneMore}

-- the seat's pass is one of this gate's, and its expert answers questions of the gate's width
pub record IsSeatOf {X : Type 0} (width : X → ℕ) (gate : Lock Opening) (seat : Seat X) : Type 0 where
  pub pass : Belongs gate seat.pass
  pub expert : width seat.expert ≡ gate.base.table.context.width

-- why a seat ended: Done exactly if its last reply is Done; Spent if no turn was left; Memory if memory ran out in a turn,
-- or an answer, with a turn left
abbrev pub IsEnd : SeatEnd → PassModel Opening SetEntry → List SetEntry → PassModel Opening SetEntry → Type 0
IsEnd Done p entries q = (ends_done entries ≡ true) × TookTurns p entries q
IsEnd Spent p entries q = (ends_done entries ≡ false) × TookTurns p entries q × (q.made ≡ q.turns)
IsEnd Memory p entries q = (ends_done entries ≡ false) × ((TookTurns p entries q × (q.made < q.turns)) ⊎ TookOneMore p entries q)

module _ {X M : Type 0} (width_of : X → ℕ) (memory_of : X → M) (Answering : M → Rule → Answer → M → Type 0)
    (Learning : M → SetReply → M → Type 0) (o : Opening) where
  -- from p to q, and from one expert to the other, a run of an expert at a gate that was opened so
  pub record HasAttended (p : PassModel Opening SetEntry) (old : X) (ending : SeatEnd) (q : PassModel Opening SetEntry) (new : X) : Type 0 where
    pub entries : List SetEntry
    pub run : SeatRun Answering Learning p.number (memory_of old) entries (memory_of new)
    pub pass : HasMade o p entries q
    pub end : IsEnd ending p entries q
    -- if the end is Memory and no turn was refused, a question is due to which the expert gave no answer
    pub silent : ending ≡ Memory → TookTurns p entries q → UnansweredRun Answering Learning p.number (memory_of old) entries (memory_of new)
    pub width : width_of new ≡ width_of old

  -- the seat ran
  pub record HasRunSeat (old new : Seat X) : Type 0 where
    pub end : SeatEnd
    pub ended : new.ended ≡ Some end
    pub attended : HasAttended old.pass old.expert end new.pass new.expert
