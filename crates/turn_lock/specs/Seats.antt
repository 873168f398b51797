-- The seat of a pass, at rest and in its turn.
use Rattle.std.specs.Prelude.{◌≡◌, ℕ, ◌+◌, ◌<◌, false, List, [], ◌∷◌, ◌++◌}
use Rattle.std.specs.Prelude.{Some, None}
use Rattle.atomic_table.specs.Seated.{TableId}
use Rattle.atomic_table.specs.declared.shared.Seat.{Seat}
use Rattle.turn_lock.specs.declared.view.View.{View}
use Rattle.turn_lock.specs.Histories.{own_of, longer}
use Rattle.turn_lock.specs.Passes.{PassModel}

module _ {V B E : Type 0} where
  -- what contracts see of it
  abbrev pub pass_of : Seat V (View B E) → PassModel B E
  pass_of t = record {
    lock = t.table_id;
    number = t.me.0.number;
    base = t.me.0.base;
    turns = t.me.0.turns;
    passes = t.me.0.passes;
    seen = t.me.0.seen;
    own = t.me.0.own;
    made = t.me.0.drawn;
  }

  -- between two turns
  pub record IsIdle (by : E → ℕ) (t : Seat V (View B E)) : Type 0 where
    pub holds : t.me.1 ≡ []
    pub positive : 0 < t.me.0.number
    pub ticket : t.me.0.ticket ≡ None
    pub mine : t.me.0.mine ≡ false
    pub stands : t.me.0.stands ≡ 1
    pub own : t.me.0.own ≡ own_of by t.me.0.number t.me.0.seen

  -- it has this ticket, and its turn has not come
  abbrev pub Waits : ℕ → Seat V (View B E) → Type 0
  Waits ticket t = (t.me.1 ≡ []) × (0 < t.me.0.number) × (t.me.0.mine ≡ false) × (t.me.0.ticket ≡ Some ticket)

  -- it is of this table, which has two words and a slot
  abbrev pub Fits : TableId → Seat V (View B E) → Type 0
  Fits id t = (t.table_id ≡ id) × (id.words ≡ 2) × (id.slots ≡ 1)

  abbrev pub Stays : Seat V (View B E) → Seat V (View B E) → Type 0
  Stays t u = (u.table_id ≡ t.table_id) × (u.id ≡ t.id)

  -- pass 1, when k passes were made
  pub record Making (turns k : ℕ) (t : Seat V (View B E)) : Type 0 where
    pub holds : t.me.1 ≡ []
    pub number : t.me.0.number ≡ 1
    pub turns_is : t.me.0.turns ≡ turns
    pub passes : t.me.0.passes ≡ k
    pub ticket : t.me.0.ticket ≡ None
    pub mine : t.me.0.mine ≡ false
    pub stands : t.me.0.stands ≡ 1
    pub drawn : t.me.0.drawn ≡ 0
    pub seen : t.me.0.seen ≡ []
    pub own : t.me.0.own ≡ []

module _ {B E : Type 0} where
  -- the view of pass 1 after a pass was joined to it
  abbrev pub gathered : View B E → PassModel B E → View B E
  gathered v p = record v {
    seen = longer v.seen p.seen;
    drawn = v.drawn + p.made;
    stands = v.stands + 1;
    joined = v.joined ++ record { number = p.number; own = p.own } ∷ [];
    joined_seen = v.joined_seen ++ v.seen ∷ p.seen ∷ [];
  }

  -- and after all of these
  abbrev pub all_gathered : View B E → List (PassModel B E) → View B E
  all_gathered v [] = v
  all_gathered v (p ∷ ps) = all_gathered (gathered v p) ps
