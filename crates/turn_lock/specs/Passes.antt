-- What contracts see of a lock and of its passes.
use Rattle.std.specs.Prelude.{◌≡◌, ℕ, zero, suc, ◌+◌, ◌-◌, ◌<◌, ◌≤◌, ◌⊎◌, List, [], ◌∷◌, ◌++◌, length, All}
use Rattle.std.specs.Prelude.{◌↔◌, Option, Some, Result, IfOk, IsErrOf}
pub use Rattle.atomic_table.specs.Seated.{TableId}
use Rattle.turn_lock.specs.declared.fault.TurnFault.{TurnFault}
use Rattle.turn_lock.specs.declared.fault.TurnFault.TheVariants.{Spent, Memory}
use Rattle.turn_lock.specs.Histories.{StartsWith, own_of}

-- a lock: which it is, the base of the value that it was made with, how many turns a pass may make, and how many passes there are
pub record Lock (B : Type 0) : Type 0 where
  pub id : TableId
  pub base : B
  pub turns : ℕ
  pub passes : ℕ

-- a pass
pub record PassModel (B E : Type 0) : Type 0 where
  -- of which lock it is, and its number there
  pub lock : TableId
  pub number : ℕ
  -- the base and the turns of that lock
  pub base : Option B
  pub turns : ℕ
  -- how many passes the lock was made with, at pass 1, and 0 at the others
  pub passes : ℕ
  -- the history that it has seen, and its own entries in it
  pub seen : List E
  pub own : List E
  -- how many turns it has made
  pub made : ℕ

-- what no turn changes of a pass
pub record Badge (B : Type 0) : Type 0 where
  pub lock : TableId
  pub number : ℕ
  pub base : Option B
  pub turns : ℕ
  pub passes : ℕ

module _ {B E : Type 0} where
  abbrev pub badge : PassModel B E → Badge B
  badge p = record { lock = p.lock; number = p.number; base = p.base; turns = p.turns; passes = p.passes }

  -- the pass is one of this lock's
  pub record Belongs (l : Lock B) (p : PassModel B E) : Type 0 where
    pub lock : p.lock ≡ l.id
    pub base : p.base ≡ Some l.base
    pub turns : p.turns ≡ l.turns
    pub number : (1 ≤ p.number) × (p.number ≤ l.passes)

  -- the pass has made no turn
  abbrev pub IsFresh : PassModel B E → Type 0
  IsFresh p = (p.seen ≡ []) × (p.own ≡ []) × (p.made ≡ 0)

module _ {B : Type 0} where
  -- the badges of k passes, from the pass n on
  abbrev pub badges : TableId → Option B → ℕ → ℕ → ℕ → List (Badge B)
  badges id base turns n zero = []
  badges id base turns n (suc k) = record { lock = id; number = n; base = base; turns = turns; passes = 0 } ∷ badges id base turns (suc n) k

  -- the badges of all passes that the lock was made with, in their order
  abbrev pub roll : Lock B → List (Badge B)
  roll l = record { lock = l.id; number = 1; base = Some l.base; turns = l.turns; passes = l.passes } ∷ badges l.id (Some l.base) l.turns 2
      (l.passes - 1)

module _ {B E : Type 0} (legal : B → List E → Type 0) (by : E → ℕ) (b : B) where
  -- From p to q, one turn that ends in this entry. The pass has seen a legal history, which goes on from what it had seen,
  -- maybe with entries of others, and ends in its own entry
  pub record Entered (p : PassModel B E) (entry : E) (q : PassModel B E) : Type 0 where
    pub between : List E
    pub seen : q.seen ≡ (p.seen ++ between) ++ entry ∷ []
    pub own : q.own ≡ p.own ++ entry ∷ []
    pub in_it : q.own ≡ own_of by q.number q.seen
    pub is_legal : legal b q.seen
    pub made : q.made ≡ p.made + 1

  -- from p to q, one turn with no entry
  pub record Looked (p q : PassModel B E) : Type 0 where
    pub seen : StartsWith q.seen p.seen
    pub own : q.own ≡ p.own
    pub in_it : q.own ≡ own_of by q.number q.seen
    pub is_legal : legal b q.seen
    pub made : q.made ≡ p.made + 1

  -- From p to q, one turn with an event. A reply makes the entry. If memory runs out, the turn makes no entry. If the pass has made
  -- all its turns, it makes no other, and nothing changes
  pub record TakesTurn {R : Type 0} (entry_of : R → E) (p : PassModel B E) (result : Result R TurnFault) (q : PassModel B E) : Type 0 where
    pub same : badge q ≡ badge p
    pub entry : IfOk result (λ reply. Entered p (entry_of reply) q)
    pub memory : IsErrOf result Memory → Looked p q
    pub spent : IsErrOf result Spent ↔ (p.made ≡ p.turns)
    pub unchanged : IsErrOf result Spent → q ≡ p
    pub within : p.made ≤ p.turns

  -- the history that a closed lock leaves: it is legal and goes on from what each pass has seen, its entries by each pass are
  -- that pass's own, and it has no other entry
  pub record ClosesWith (history : List E) (passes : List (PassModel B E)) : Type 0 where
    pub is_legal : legal b history
    pub seen : All (λ p. StartsWith history p.seen) passes
    pub own : All (λ p. own_of by p.number history ≡ p.own) passes
    pub others : (n : ℕ) → (n ≡ 0) ⊎ (length passes < n) → own_of by n history ≡ []
