-- The cells of an object: one that is taken off the front, and a row that is read up to a place.
use Rattle.std.specs.Prelude.{◌≡◌, ℕ, ◌+◌, ◌-◌, ◌==◌, ◌||◌, Bool, false, [], ◌∷◌, ◌++◌, Some, drop, length, replicate}
use Rattle.fca_model.specs.Sets.{Set}
use Rattle.fca_model.specs.Tables.{Text}
use Rattle.text_pieces.specs.Blanks.{trim}
use Rattle.csv_context.specs.Records.{Record}
use Rattle.csv_context.specs.Lines.{fields_in, is_comma}
use Rattle.csv_context.specs.Form.{cross_of, row_form}

-- a byte that alone is a cross
abbrev pub is_short_cross : ℕ → Bool
is_short_cross b = (b == 88) || (b == 120) || (b == 49)

-- a byte that alone is a cell, or the comma behind an empty one
abbrev pub begins_short : ℕ → Bool
begins_short b = is_short_cross b || (b == 46) || (b == 48) || is_comma b

-- the first cell of some says whether it is a cross, and others are behind its comma
pub record TakesCell (cells : Text) (cross : Bool) (behind : Text) : Type 0 where
  pub field : Text
  pub fields : fields_in cells ≡ field ∷ fields_in behind
  pub says : cross_of (trim field) ≡ Some cross

-- the cells of record i before this place are read into the row
pub record ReadTo (i width : ℕ) (cells : Record) (row : Set) (place : ℕ) : Type 0 where
  pub front : Set
  pub placed : length front ≡ place
  pub filled : row ≡ front ++ replicate (width - place) false
  pub says : row_form i 2 [] cells ≡ row_form i (place + 2) front (drop place cells)
