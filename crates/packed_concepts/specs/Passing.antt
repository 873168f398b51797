-- What a call leaves that writes a text through a buffer.
use Rattle.std.specs.Prelude.{◌≡◌, ◌++◌, ℕ, Option, Ok}
use Rattle.fca_io.specs.Faults.{ReadCounts}
use Rattle.fca_model.specs.Tables.{Text}
use Rattle.expert_wire.specs.Parts.{Writes}

-- behind what waited before, the text was written, but for what waits now
pub record HasPassed (held held' : Option Text) (faults faults' : ℕ) (other other' : Option Text) (aside aside' : ReadCounts)
    (waits waits' text : Text) : Type 0 where
  pub gone : Text
  pub written : Writes held held' faults faults' other other' aside aside' gone (Ok tt)
  pub split : gone ++ waits' ≡ waits ++ text
