-- One turn of a seat.
use Rattle.std.specs.Prelude.{◌≡◌, ◌<◌, ◌⊎◌, Option}
use Rattle.fca_model.specs.Implications.{Rule}
use Rattle.fca_model.specs.Exploration.{SetEvent, SetReply, SetEntry}
use Rattle.explore_state.specs.History.{Opening}
use Rattle.turn_lock.specs.Passes.{PassModel}
use Rattle.turn_lock.specs.declared.fault.TurnFault.{TurnFault}
use Rattle.turn_lock.specs.declared.fault.TurnFault.TheVariants.{Spent, Memory}
use Rattle.expert_gate.specs.Turns.{RepliesTo, Looks}
use Rattle.oracle_expert.specs.declared.expert.Answer.{Answer}
use Rattle.oracle_expert.specs.Runs.{IsDueEntry, Stops, IsUnanswered}

module _ (o : Opening) where
  -- the pass after a turn was refused: none was left, or memory ran out in it, and it made no entry
  abbrev pub IsRefusedTurn : TurnFault → PassModel Opening SetEntry → PassModel Opening SetEntry → Type 0
  IsRefusedTurn Spent p q = (q ≡ p) × (p.made ≡ p.turns)
  IsRefusedTurn Memory p q = Looks o p q

module _ {M : Type 0} (Answering : M → Rule → Answer → M → Type 0) (Learning : M → SetReply → M → Type 0) (o : Opening) where
  -- a turn of the pass did what was due, and got a reply
  pub record IsPlayed (due : Option Rule) (p : PassModel Opening SetEntry) (old : M) (reply : SetReply) (q : PassModel Opening SetEntry)
      (new : M) : Type 0 where
    pub event : SetEvent
    pub turn : RepliesTo o p event reply q
    pub entry : IsDueEntry Answering Learning p.number due old (record { event = event; reply = reply }) new

  -- no turn was made though one was left, since the expert ran out of memory for its answer
  abbrev pub IsSilent : Option Rule → PassModel Opening SetEntry → M → TurnFault → PassModel Opening SetEntry → M → Type 0
  IsSilent due p old fault q new = (fault ≡ Memory) × (q ≡ p) × (p.made < p.turns) × IsUnanswered Answering Learning p.number due old new

  -- no event came of the turn, though the expert may have answered
  pub record IsStopped (due : Option Rule) (p : PassModel Opening SetEntry) (old : M) (fault : TurnFault) (q : PassModel Opening SetEntry)
      (new : M) : Type 0 where
    pub refused : IsRefusedTurn o fault p q ⊎ IsSilent due p old fault q new
    pub stops : Stops Answering Learning p.number due old new
