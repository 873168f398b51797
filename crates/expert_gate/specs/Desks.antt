-- Desks: what contracts see of one, and what its calls do to it.
use Rattle.std.specs.Prelude.{◌≡◌, ◌↔◌, ◌⊎◌, ℕ, ◌-◌, Option, Some, None, Result, IfOk, OnErr, IsErrOf, List, [], ◌∷◌, ◌++◌}
use Rattle.std.specs.Borrow.{GName}
use Rattle.fca_model.specs.Exploration.{SetEvent, SetReply, SetEntry, own}
use Rattle.fca_model.specs.Widths.{HasWideReply}
use Rattle.explore_state.specs.History.{Opening, ExploreModel}
use Rattle.turn_lock.specs.Histories.{StartsWith, own_of}
use Rattle.turn_lock.specs.Passes.{Badge, PassModel, Lock, badge}
use Rattle.turn_lock.specs.declared.fault.TurnFault.{TurnFault}
use Rattle.turn_lock.specs.declared.fault.TurnFault.TheVariants.{Spent}
use Rattle.expert_gate.specs.Histories.{by_expert, IsHistory}

-- what contracts see of a desk
pub record DeskState : Type 0 where
  -- the number of its expert
  pub number : ℕ
  -- the pass that the expert works by, or none
  pub lock : Option (Badge Opening)
  -- what the exploration was opened with
  pub opening : Opening
  -- the borrow that the desk works through: by it a caller knows what the desk did there, once the desk is gone
  pub place : GName
  -- the history that the desk has seen, and the entries of its expert
  pub seen : List SetEntry
  pub entries : List SetEntry
  -- the turns that are left, if turns are counted
  pub left : Option ℕ

-- a desk behind a gate, by a pass that a borrow holds
abbrev pub at_gate : Lock Opening → PassModel Opening SetEntry → GName → DeskState
at_gate gate p place = record {
  number = p.number;
  lock = Some (badge p);
  opening = gate.base;
  place = place;
  seen = p.seen;
  entries = p.own;
  left = Some (p.turns - p.made);
}

-- the desk of expert e, who has the exploration that a borrow holds alone: there is no pass, and turns are not counted
abbrev pub alone_at : ExploreModel → ℕ → GName → DeskState
alone_at h e place = record {
  number = e;
  lock = None;
  opening = h.opening;
  place = place;
  seen = h.journal;
  entries = own h.journal e;
  left = None;
}

-- the turns that are left after one turn
abbrev pub one_less : Option ℕ → Option ℕ
one_less None = None
one_less (Some n) = Some (n - 1)

-- the two are one desk at two times
pub record IsSameDesk (old new : DeskState) : Type 0 where
  pub number : new.number ≡ old.number
  pub lock : new.lock ≡ old.lock
  pub opening : new.opening ≡ old.opening
  pub place : new.place ≡ old.place

-- the desk has seen a legal history, whose entries of its expert are the desk's
pub record KnowsHistory (desk : DeskState) : Type 0 where
  pub is_legal : IsHistory desk.opening desk.seen
  pub own : desk.entries ≡ own_of by_expert desk.number desk.seen

-- the second history goes on from the first, maybe with entries of others, and ends in the entry
abbrev pub GoesOnTo : List SetEntry → SetEntry → List SetEntry → Type 0
GoesOnTo seen entry seen' = (between : List SetEntry) × (seen' ≡ (seen ++ between) ++ entry ∷ [])

-- One call of a desk with this event, which is one turn. A reply makes one entry. If memory runs out, the turn makes no entry. If no
-- turn is left, none is made, and nothing changes
pub record Plays (width : ℕ) (event : SetEvent) (old : DeskState) (result : Result SetReply TurnFault) (new : DeskState) : Type 0 where
  pub same : IsSameDesk old new
  pub entry : IfOk result (λ reply. new.entries ≡ old.entries ++ record { event = event; reply = reply } ∷ [])
  pub seen : IfOk result (λ reply. GoesOnTo old.seen (record { event = event; reply = reply }) new.seen)
  pub wide : IfOk result (HasWideReply width)
  pub err : OnErr result (new.entries ≡ old.entries)
  pub looked : OnErr result (StartsWith new.seen old.seen)
  pub known : IsErrOf result Spent ⊎ KnowsHistory new
  pub spent : IsErrOf result Spent ↔ (old.left ≡ Some 0)
  pub unchanged : IsErrOf result Spent → new ≡ old
  pub left : new.left ≡ one_less old.left

-- Any number of calls of a desk: it has seen the same history or a longer one. Once a turn was made, the desk knows a legal history
pub record Works (old new : DeskState) : Type 0 where
  pub same : IsSameDesk old new
  pub seen : StartsWith new.seen old.seen
  pub known : (new ≡ old) ⊎ KnowsHistory new
