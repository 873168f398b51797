-- Contexts whose rows are the same but for their order and how often each comes.
--
-- The rows {a}, {b}, {a} and the rows {b}, {a} are such, so they have the same closures, pseudo-intents and basis.
use Rattle.std.specs.Prelude.{◌≡◌, Bool}
use Rattle.std.specs.List.{list_all}
use Rattle.fca_model.specs.Sets.{Set}
use Rattle.fca_model.specs.Context.{Context}

-- the contexts have one width, and a test that all rows of one pass all rows of the other pass too
pub record HaveSameRows (K D : Context) : Type 0 where
  pub width : K.width ≡ D.width
  pub rows : (p : Set → Bool) → list_all p K.rows ≡ list_all p D.rows
