-- What changes at the two sides of a session: at the end that it reads and writes, and at its expert's desk.
use Rattle.std.specs.Prelude.{◌≡◌, ◌≤◌, ◌+◌, ℕ, Option, Some, None, List, ◌++◌}
use Rattle.std.specs.Io.KnownBytes.{Appends, Consumes}
use Rattle.fca_model.specs.Tables.{Text}
use Rattle.fca_model.specs.Exploration.{SetEntry}
use Rattle.expert_gate.specs.Desks.{DeskState}

-- an end: the bytes left and the bytes held, if they are known, and its counts of faults
pub record DuplexState : Type 0 where
  pub left : Option Text
  pub held : Option Text
  pub read_faults : ℕ
  pub write_faults : ℕ

-- of ends that show what is left and what is held, and their counts of faults
abbrev pub end_state_of : {E : Type 0} → (left held : E → Option Text) (read_faults write_faults : E → ℕ) → E → DuplexState
end_state_of left held read_faults write_faults end =
    record { left = left end; held = held end; read_faults = read_faults end; write_faults = write_faults end }

-- these bytes were taken, and these were sent
pub record Moves (a b : DuplexState) (taken sent : Text) : Type 0 where
  pub lost : Consumes a.left b.left taken
  pub gained : Appends a.held b.held sent
  pub read_faults : a.read_faults ≤ b.read_faults
  pub write_faults : a.write_faults ≤ b.write_faults

-- no call of the end failed
pub record IsQuiet (a b : DuplexState) : Type 0 where
  pub read_faults : b.read_faults ≡ a.read_faults
  pub write_faults : b.write_faults ≡ a.write_faults

-- a desk: its entries, and the turns that are left, if turns are counted
pub record DeskProgress : Type 0 where
  pub entries : List SetEntry
  pub left : Option ℕ

abbrev pub desk_progress_of : DeskState → DeskProgress
desk_progress_of desk = record { entries = desk.entries; left = desk.left }

-- at most k turns were taken, if turns are counted
abbrev pub TakesTurnsAtMost : ℕ → Option ℕ → Option ℕ → Type 0
TakesTurnsAtMost k None new = new ≡ None
TakesTurnsAtMost k (Some turns) new = (left : ℕ) × (new ≡ Some left) × (turns ≤ left + k)

-- k turns were taken, if turns are counted
abbrev pub TakesTurns : ℕ → Option ℕ → Option ℕ → Type 0
TakesTurns k None new = new ≡ None
TakesTurns k (Some turns) new = (left : ℕ) × (new ≡ Some left) × (turns ≡ left + k)

-- these entries were made, in k turns
pub record Enters (c d : DeskProgress) (made : List SetEntry) (k : ℕ) : Type 0 where
  pub added : d.entries ≡ c.entries ++ made
  pub turns : TakesTurns k c.left d.left
