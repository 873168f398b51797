-- Tables: contexts whose objects and attributes have names.
--
-- The rows stand in the order of the objects' names, and the attributes are numbered in the order of theirs.
use Rattle.std.specs.Prelude.{ℕ, Option, List}
use Rattle.fca_model.specs.Context.{Context}

-- a name, or a text, as its bytes
abbrev pub Text : Type 0
Text = List ℕ

-- a context with the names of its objects, in the order of the rows, and of its attributes, and a title where it has one
pub record NamedContext : Type 0 where
  pub title : Option Text
  pub objects : List Text
  pub attributes : List Text
  pub context : Context
