-- The turns of experts: what each adds to the one history, and what its pass knows of it then.
use Rattle.std.specs.Prelude.{◌≡◌, ◌≤◌, ◌↔◌, ℕ, Result, IfOk, IsErrOf, List, length}
use Rattle.fca_model.specs.Exploration.{SetEvent, SetReply, SetEntry}
use Rattle.explore_state.specs.History.{Opening, ExploreModel, state_of, open_of}
use Rattle.fca_model.specs.Widths.{HasWideReply}
use Rattle.turn_lock.specs.Passes.{Lock, PassModel, badge, Entered, Looked, ClosesWith}
use Rattle.turn_lock.specs.declared.fault.TurnFault.{TurnFault}
use Rattle.turn_lock.specs.declared.fault.TurnFault.TheVariants.{Spent, Memory}
use Rattle.expert_gate.specs.Histories.{by_expert, IsHistory}
use Rattle.expert_gate.specs.declared.shared.Seen.{Seen}

-- after a history: how many events, rows, accepted implications and open questions there are
abbrev pub counts_after : Opening → List SetEntry → Seen
counts_after o H =
    let h : ExploreModel = record { opening = o; journal = H; spare = 0 } in
    record {
      events = length H;
      rows = length (state_of h).context.rows;
      accepted = length (state_of h).accepted;
      questions = length (open_of h);
    }

-- one turn of a pass, with this event and this reply
abbrev pub RepliesTo : Opening → PassModel Opening SetEntry → SetEvent → SetReply → PassModel Opening SetEntry → Type 0
RepliesTo o p event reply q = Entered IsHistory by_expert o p (record { event = event; reply = reply }) q

-- one turn of a pass, with no event
abbrev pub Looks : Opening → PassModel Opening SetEntry → PassModel Opening SetEntry → Type 0
Looks o p q = Looked IsHistory by_expert o p q

-- One turn of a pass at a gate, with this event. The sets of a reply have the width of the table. If memory runs out, the
-- turn makes no entry. If the pass has made all its turns, it makes no other, and nothing changes
pub record MakesTurn (gate : Lock Opening) (event : SetEvent) (p : PassModel Opening SetEntry) (result : Result SetReply TurnFault)
    (q : PassModel Opening SetEntry) : Type 0 where
  pub same : badge q ≡ badge p
  pub entry : IfOk result (λ reply. RepliesTo gate.base p event reply q)
  pub wide : IfOk result (HasWideReply gate.base.table.context.width)
  pub memory : IsErrOf result Memory → Looks gate.base p q
  pub spent : IsErrOf result Spent ↔ (p.made ≡ p.turns)
  pub unchanged : IsErrOf result Spent → q ≡ p
  pub within : p.made ≤ p.turns

-- the history of a closed gate: it goes on from what each pass has seen, its entries by each expert are those of that
-- expert's pass, and it has no other entry
abbrev pub HasClosed : Opening → List SetEntry → List (PassModel Opening SetEntry) → Type 0
HasClosed o H passes = ClosesWith IsHistory by_expert o H passes
