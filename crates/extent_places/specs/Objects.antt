-- The rows that contain a set, and sets of objects: the extent of a set of attributes, and the objects of an attribute.
use Rattle.std.specs.Prelude.{◌≡◌, ◌<◌, ℕ, true, false, List, [], length, replicate, filter, slice_index_or, slice_set}
use Rattle.fca_model.specs.Sets.{Set, within}
use Rattle.fca_model.specs.Context.{Context}

-- the context of the rows that contain A
abbrev pub rows_above : Context → Set → Context
rows_above K A = record { width = K.width; rows = filter (within A) K.rows }

-- S has each object whose row contains A, and no other
pub record HasObjects (K : Context) (A S : Set) : Type 0 where
  pub long : length S ≡ length K.rows
  pub each : (g : ℕ) → g < length K.rows → slice_index_or S g false ≡ within A (slice_index_or K.rows g [])

-- attribute i alone
abbrev pub alone : Context → ℕ → Set
alone K i = slice_set (replicate K.width false) i true

-- the objects of each attribute
pub record AreColumns (K : Context) (Cs : List Set) : Type 0 where
  pub wide : length Cs ≡ K.width
  pub each : (i : ℕ) → i < K.width → HasObjects K (alone K i) (slice_index_or Cs i [])
