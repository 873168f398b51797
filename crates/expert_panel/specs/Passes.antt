-- What turns do to a pass.
use Rattle.std.specs.Prelude.{◌≡◌, ◌+◌, ◌<◌, ◌⊎◌, List, ◌++◌, length}
use Rattle.fca_model.specs.Exploration.{SetEntry}
use Rattle.explore_state.specs.History.{Opening}
use Rattle.turn_lock.specs.Histories.{StartsWith, own_of}
use Rattle.turn_lock.specs.Passes.{PassModel, badge}
use Rattle.expert_gate.specs.Histories.{by_expert, IsHistory}

-- From p to q, turns that made these entries. The pass has seen a history that goes on from what it had seen. It is legal and has exactly
-- the pass's own entries once a turn was made. If none was made, it is so if it was so before
pub record HasMade (o : Opening) (p : PassModel Opening SetEntry) (entries : List SetEntry) (q : PassModel Opening SetEntry) : Type 0 where
  pub same : badge q ≡ badge p
  pub own : q.own ≡ p.own ++ entries
  pub seen : StartsWith q.seen p.seen
  pub in_it : (p.own ≡ own_of by_expert p.number p.seen) ⊎ (p.made < q.made) → q.own ≡ own_of by_expert q.number q.seen
  pub is_legal : IsHistory o p.seen ⊎ (p.made < q.made) → IsHistory o q.seen

-- a turn for each entry, and no other
abbrev pub TookTurns : PassModel Opening SetEntry → List SetEntry → PassModel Opening SetEntry → Type 0
TookTurns p entries q = q.made ≡ p.made + length entries

-- a turn for each entry, and one that was refused for memory
abbrev pub TookOneMore : PassModel Opening SetEntry → List SetEntry → PassModel Opening SetEntry → Type 0
TookOneMore p entries q = q.made ≡ (p.made + length entries) + 1
