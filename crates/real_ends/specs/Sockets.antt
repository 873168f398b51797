-- What contracts see of a listening socket.
use Rattle.std.specs.Prelude.{ℕ, Bool}

-- whether it listens, and the one count of the faults of its calls
pub record Listening : Type 0 where
  pub listens : Bool
  pub faults : ℕ
