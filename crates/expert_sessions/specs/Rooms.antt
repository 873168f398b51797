-- Room that is made before the first session, so that memory cannot run out after the last.
use Rattle.std.specs.Prelude.{◌≡◌, ◌≤◌, ℕ, [], vec_capacity}
use Rattle.expert_sessions.specs.declared.serving.Room.{Room}

-- the lists hold nothing
pub record IsEmpty {E : Type 0} (room : Room E) : Type 0 where
  pub seats : room.seats.items ≡ []
  pub passes : room.passes.items ≡ []
  pub ends : room.ends.items ≡ []
  pub ended : room.ended.items ≡ []

-- each list has room for this many
pub record HasRoom {E : Type 0} (count : ℕ) (room : Room E) : Type 0 where
  pub seats : count ≤ vec_capacity room.seats
  pub passes : count ≤ vec_capacity room.passes
  pub ends : count ≤ vec_capacity room.ends
  pub ended : count ≤ vec_capacity room.ended
