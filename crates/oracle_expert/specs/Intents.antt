-- Contexts that know the same: those with the same intents. Whether rows are reordered, repeated, or left out as meets of others makes no
-- difference.
--
-- Of the rows {a}, {b} over a, b the intents are {}, {a}, {b}, {a, b}, and so they are of the rows {b}, {}, {a}, {b}.
use Rattle.std.specs.Prelude.{◌≡◌, Bool, List}
use Rattle.std.specs.List.{list_all}
use Rattle.fca_model.specs.Sets.{Set}
use Rattle.fca_model.specs.Context.{Context, is_closed}
use Rattle.fca_model.specs.Pseudo.{intents}

-- D has the intents of C
pub record HasIntentsOf (C D : Context) : Type 0 where
  pub width : D.width ≡ C.width
  pub alike : intents D ≡ intents C

-- each of the sets is an intent of C
abbrev pub are_intents : Context → List Set → Bool
are_intents C sets = list_all (is_closed C) sets
