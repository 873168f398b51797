-- What each kind of step does to the views, and shows its pass.
-- The kinds are six: making the table, making one more pass, drawing a ticket, looking whether the turn has come, ending the
-- turn, and joining a pass to pass 1. From the look that finds its turn to the end of it a pass alone reads and changes the
-- value, which is no step.
use Rattle.std.specs.Prelude.{◌≡◌, ◌≢◌, ℕ, ◌+◌, ◌<◌, ◌⊎◌, true, false, List, [], ◌∷◌, ◌++◌}
use Rattle.std.specs.Prelude.{Some, None}
use Rattle.atomic_table.specs.Table.{Me, Step}
use Rattle.turn_lock.specs.declared.view.View.{View}
use Rattle.turn_lock.specs.Histories.{StartsWith, own_of, longer}

-- ---- the views

module _ {B E : Type 0} where
  -- pass 1, as the table is made
  abbrev pub first_view : B → ℕ → View B E
  first_view b turns = record {
    number = 1;
    base = Some b;
    turns = turns;
    seen = [];
    own = [];
    drawn = 0;
    ticket = None;
    mine = false;
    stands = 1;
    passes = 1;
    joined = [];
    joined_seen = [];
  }

  -- pass 1, as one more pass is made
  abbrev pub one_more : View B E → View B E
  one_more v = record v { passes = v.passes + 1 }

  -- the new pass
  abbrev pub newcomer : View B E → View B E
  newcomer v = record {
    number = v.passes + 1;
    base = v.base;
    turns = v.turns;
    seen = v.seen;
    own = [];
    drawn = 0;
    ticket = None;
    mine = false;
    stands = 1;
    passes = 0;
    joined = [];
    joined_seen = [];
  }

  -- a pass after its turn, with this history
  abbrev pub ended_view : (E → ℕ) → List E → View B E → View B E
  ended_view by log v = record v { mine = false; ticket = None; seen = log; own = own_of by v.number log }

  -- pass 1, as another is joined to it
  abbrev pub joined_with : View B E → View B E → View B E
  joined_with v w = record v {
    seen = longer v.seen w.seen;
    drawn = v.drawn + w.drawn;
    stands = v.stands + w.stands;
    joined = v.joined ++ record { number = w.number; own = w.own } ∷ [];
    joined_seen = v.joined_seen ++ v.seen ∷ w.seen ∷ [];
  }

  -- what is left of the other
  abbrev pub joined_away : View B E
  joined_away = record {
    number = 0;
    base = None;
    turns = 0;
    seen = [];
    own = [];
    drawn = 0;
    ticket = None;
    mine = false;
    stands = 0;
    passes = 0;
    joined = [];
    joined_seen = [];
  }

-- the history goes on from an earlier one by entries of the pass n alone, or not at all
abbrev pub Grew : {E : Type 0} → (E → ℕ) → ℕ → List E → List E → Type 0
Grew {E} by n before log = (es : List E) × (log ≡ before ++ es) × ((k : ℕ) → k ≢ n → own_of by k es ≡ [])

-- ---- what a step shows, of the seat before it, the number that it found, and the seat after it

module _ {V B E : Type 0} where
  -- the number found is the ticket
  abbrev pub Drew : Step V → Me V (View B E) → ℕ → Me V (View B E) → Type 0
  Drew st m found m' = (m'.1 ≡ m.1) × (m'.0 ≡ record m.0 { drawn = m.0.drawn + 1; ticket = Some found })

module _ {V B E : Type 0} (base_of : V → B) (history_of : V → List E) (legal : B → List E → Type 0) (by : E → ℕ) where
  -- what a pass knows of the value as its turn has come: it has the lock's base and a legal history, which goes on from
  -- what the pass had seen and has its own entries. The pass sees this history now
  abbrev pub SeesValue : View B E → V → View B E → Type 0
  SeesValue v value w = (v.base ≡ Some (base_of value)) × legal (base_of value) (history_of value) × StartsWith (history_of value) v.seen
      × (v.own ≡ own_of by v.number (history_of value)) × (w ≡ record v { mine = true; seen = history_of value })

  -- the turn is the pass's, and it holds the slot with the value
  abbrev pub HasTurn : Me V (View B E) → Me V (View B E) → Type 0
  HasTurn m m' = (value : V) × (m'.1 ≡ (0, value) ∷ m.1) × SeesValue m.0 value m'.0

  -- the turn has come if the number found is the ticket
  abbrev pub Came : Step V → Me V (View B E) → ℕ → Me V (View B E) → Type 0
  Came st m found m' =
      ((m.0.ticket ≡ Some found) × HasTurn m m')
      ⊎ ((m.0.ticket ≢ Some found) × (m' ≡ m))

  -- the turn may end: it is the pass's, which holds the slot with a value of the lock's base, and the value's history is
  -- legal and has grown by entries of the pass alone since the pass saw it
  abbrev pub MayEnd : Me V (View B E) → Type 0
  MayEnd m = (value : V) × (m.1 ≡ (0, value) ∷ []) × (0 < m.0.number) × (m.0.mine ≡ true) × (m.0.base ≡ Some (base_of value))
      × legal (base_of value) (history_of value) × Grew by m.0.number m.0.seen (history_of value)

module _ {V B E : Type 0} (history_of : V → List E) (by : E → ℕ) where
  -- the turn is over, and the pass has seen the history of the value that it gave back
  abbrev pub Ended : Step V → Me V (View B E) → ℕ → Me V (View B E) → Type 0
  Ended st m found m' = (value : V) → m.1 ≡ (0, value) ∷ [] → (m'.1 ≡ []) × (m'.0 ≡ ended_view by (history_of value) m.0)
