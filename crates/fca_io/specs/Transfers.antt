-- Whole transfers over streams that may tell what they hold.
use Rattle.std.specs.Prelude.{◌≡◌, ◌<◌, ◌↔◌, ◌++◌, ℕ, Option, List, length}
use Rattle.std.specs.Io.KnownBytes.{Appends, Consumes}

-- these bytes were taken from a source, and there are more of them than the limit if and only if the transfer was too long
pub record Takes (old new : Option (List ℕ)) (limit : ℕ) (too_long : Type 0) : Type 0 where
  pub bytes : List ℕ
  pub gone : Consumes old new bytes
  pub long : too_long ↔ (limit < length bytes)

-- a sink gained a front of the text
pub record AppendsFront (old new : Option (List ℕ)) (text : List ℕ) : Type 0 where
  pub front : List ℕ
  pub rest : List ℕ
  pub whole : text ≡ front ++ rest
  pub gained : Appends old new front
