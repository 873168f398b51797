-- The rule of the lock, which holds between any two steps.
-- Word 0 is the number of tickets drawn, word 1 the number of ended turns, and the one slot holds the value or nothing.
use Rattle.std.specs.Prelude.{◌≡◌, ◌≢◌, ℕ, ◌*◌, ◌<◌, ◌≤◌, ◌⊎◌, true, false, List, [], ◌∷◌, length, slice_index}
use Rattle.std.specs.Prelude.{Some}
use mathlib.Core.Option.{Option as Home, some, none}
use lib.ListN.{get_elem?}
use Rattle.atomic_table.specs.Table.{State}
use Rattle.fca_model.specs.declared.TheConstants.{MAX_TURNS}
use Rattle.turn_lock.specs.declared.view.View.{View}
use Rattle.turn_lock.specs.declared.view.JoinedPass.{JoinedPass}
use Rattle.turn_lock.specs.Histories.{StartsWith, own_of, IsOneOf, total}

-- the seat i has this view
abbrev pub Sits : {W : Type 0} → List W → ℕ → W → Type 0
Sits views i v = get_elem? views i ≡ some v

module _ {B E : Type 0} where
  -- which tickets are out, and with whom
  pub record Tickets (ended drawn : ℕ) (views : List (View B E)) : Type 0 where
    pub order : ended ≤ drawn
    -- each ticket from word 1 up to but not including word 0 is in a view
    pub out : (t : ℕ) → ended ≤ t → t < drawn → (i : ℕ) × (v : View B E) × Sits views i v × (v.ticket ≡ Some t)
    -- in only one
    pub apart : (i j : ℕ) (v w : View B E) (t : ℕ) → Sits views i v → Sits views j w → v.ticket ≡ Some t → w.ticket ≡ Some t → i ≡ j
    -- and no view has another ticket
    pub held : (i : ℕ) (v : View B E) (t : ℕ) → Sits views i v → v.ticket ≡ Some t → (ended ≤ t) × (t < drawn)

  -- how many tickets were drawn, and how many can be
  pub record Counts (turns passes drawn : ℕ) (views : List (View B E)) : Type 0 where
    -- word 0 is the sum of the tickets drawn in all views
    pub sum : total (λ v. v.drawn) views ≡ drawn
    -- each view has drawn at most `turns` for each pass that it stands for
    pub most : (i : ℕ) (v : View B E) → Sits views i v → v.drawn ≤ turns * v.stands
    -- together the views stand for the passes made
    pub stand : total (λ v. v.stands) views ≡ passes
    pub few : (passes ≤ 64) × (turns ≤ MAX_TURNS)

  -- the view of pass 1 has the number of passes made, the passes joined to it, and what these had seen
  abbrev pub First : ℕ → List (JoinedPass E) → List (List E) → List (View B E) → Type 0
  First passes gone histories views = (v : View B E) × Sits views 0 v × (v.number ≡ 1) × (v.passes ≡ passes) × (v.joined ≡ gone)
      × (v.joined_seen ≡ histories)

  -- a view whose turn is its own has the ticket that word 1 shows
  abbrev pub HasTicket : ℕ → View B E → Type 0
  HasTicket ended v = v.mine ≡ true → (0 < v.number) × (v.ticket ≡ Some ended)

module _ {B E : Type 0} (by : E → ℕ) where
  -- what a view that was not joined away knows: the base, the turns, and the entries by its number
  abbrev pub Knows : B → ℕ → ℕ → List E → View B E → Type 0
  Knows b turns passes log v = (v.base ≡ Some b) × (v.turns ≡ turns) × (0 < v.stands) × (v.number ≤ passes) × (v.own ≡ own_of by v.number log)

  -- what is kept of a pass that was joined away: the entries by its number, which no other view has
  abbrev pub Keeps : ℕ → List E → List (View B E) → JoinedPass E → Type 0
  Keeps passes log views pass = (0 < pass.number) × (pass.number ≤ passes) × (pass.own ≡ own_of by pass.number log)
      × ((i : ℕ) (v : View B E) → Sits views i v → v.number ≢ pass.number)

  -- whose entries are in the history
  pub record Numbers (b : B) (turns passes : ℕ) (log : List E) (gone : List (JoinedPass E)) (views : List (View B E)) : Type 0 where
    pub own : (i : ℕ) (v : View B E) → Sits views i v → 0 < v.number → Knows b turns passes log v
    pub kept : (pass : JoinedPass E) → IsOneOf gone pass → Keeps passes log views pass
    -- numbers differ
    pub differ : (i j : ℕ) (v w : View B E) → Sits views i v → Sits views j w → 0 < v.number → v.number ≡ w.number → i ≡ j
    -- a number that no pass was made with is in no entry
    pub strange : (n : ℕ) → (n ≡ 0) ⊎ (passes < n) → own_of by n log ≡ []

module _ {V B E : Type 0} (base_of : V → B) (history_of : V → List E) where
  -- At home, the slot has a value of the base with the history. It is out exactly if a view's turn is its own, and what
  -- that view has seen is the history
  abbrev pub Slot : B → List E → List (Home V) → List (View B E) → Type 0
  Slot b log homes views =
      ((value : V) × (homes ≡ some value ∷ []) × (base_of value ≡ b) × (history_of value ≡ log)
      × ((i : ℕ) (v : View B E) → Sits views i v → v.mine ≡ false))
      ⊎ ((homes ≡ none ∷ []) × (i : ℕ) × (v : View B E) × Sits views i v × (v.mine ≡ true) × (v.seen ≡ log))

module _ {V B E : Type 0} (base_of : V → B) (history_of : V → List E) (legal : B → List E → Type 0) (by : E → ℕ) where
  -- the rule, if b is the base of the value that the lock was made with, and a pass may make this many turns
  pub record Turned (b : B) (turns : ℕ) (s : State V (View B E)) : Type 0 where
    -- the history, the number of passes made, and what the view of pass 1 keeps of those joined to it
    pub log : List E
    pub passes : ℕ
    pub gone : List (JoinedPass E)
    pub histories : List (List E)
    pub first : First passes gone histories s.views
    pub words : length s.words ≡ 2
    pub tickets : Tickets (slice_index s.words 1) (slice_index s.words 0) s.views
    pub counts : Counts turns passes (slice_index s.words 0) s.views
    pub turn : (i : ℕ) (v : View B E) → Sits s.views i v → HasTicket (slice_index s.words 1) v
    pub slot : Slot base_of history_of b log s.homes s.views
    pub is_legal : legal b log
    -- what each view has seen is the start of the history
    pub seen : (i : ℕ) (v : View B E) → Sits s.views i v → StartsWith log v.seen
    pub joined_seen : (h : List E) → IsOneOf histories h → StartsWith log h
    pub numbers : Numbers by b turns passes log gone s.views
