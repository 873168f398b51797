-- Listeners: the ends that are to come and those that were given back, if a listener tells them, and the forms in memory.
use Rattle.std.specs.Prelude.{◌≡◌, ⊤, ℕ, ◌+◌, ◌≤◌, nat_lt, Bool, cond, Option, None, Some, List, [], ◌∷◌, ◌++◌, length}
use Rattle.fca_io.specs.Forms.{FailurePlan, Stream, BoundedSink}

-- the ends that are still to come, those that were given back, and how many both together may be
pub record Ends (E : Type 0) : Type 0 where
  pub to_come : List E
  pub given : List E
  pub room : ℕ

module _ {E : Type 0} where
  -- this end was the first to come, and nothing else changed
  abbrev pub AcceptsFirst : Option (Ends E) → Option (Ends E) → E → Type 0
  AcceptsFirst None new end = ⊤
  AcceptsFirst (Some old) new end = (later : List E) × (old.to_come ≡ end ∷ later) × (new ≡ Some (record old { to_come = later }))

  -- with this end last among those given back, where there is room for one more; else it is dropped
  abbrev pub with_given : E → Ends E → Ends E
  with_given end ends = cond (nat_lt (length ends.given + length ends.to_come) ends.room)
      (record ends { given = ends.given ++ end ∷ [] }) ends

  -- there is room for all
  abbrev pub IsWithinRoom : Option (Ends E) → Type 0
  IsWithinRoom None = ⊤
  IsWithinRoom (Some ends) = length ends.given + length ends.to_come ≤ ends.room

-- this may be the address at which a listener listens
abbrev pub MayListenAt : Option (List ℕ) → List ℕ → Type 0
MayListenAt None address = ⊤
MayListenAt (Some told) address = told ≡ address

-- ---- forms in memory

-- an end: what is still to be read there, and what was written
pub record Wire : Type 0 where
  pub incoming : Stream
  pub outgoing : BoundedSink

-- a listener for one address
pub record Link : Type 0 where
  pub address : List ℕ
  pub listens : Bool
  pub ends : Ends Wire
  pub plan : FailurePlan
