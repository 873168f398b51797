-- How a table of values is kept: all values in one text, row by row, and the length of each. The start of every 16th value is kept too,
-- so a value is found without going through those before it.
use Rattle.std.specs.Prelude.{◌≡◌, ◌<◌, ◌≤◌, ◌+◌, ◌*◌, ℕ, List, [], ◌∷◌, ◌++◌, None, length, sum, take, drop, slice_index_or}
use Rattle.fca_model.specs.Tables.{Text}
use Rattle.fca_model.specs.declared.TheConstants.{MAX_ATTRIBUTES, MAX_OBJECTS}
use Rattle.context_table.specs.Table.{first_repeat}
use Rattle.csv_context.specs.Records.{Record}
use Rattle.value_tables.specs.declared.cells.Cells.{Cells}
use Rattle.value_tables.specs.Values.{ObjectValues, ValueTable}

-- a text, cut into pieces of these lengths
abbrev pub cut : List ℕ → Text → List Text
cut [] text = []
cut (n ∷ lengths) text = take n text ∷ cut lengths (drop n text)

-- the values
abbrev pub texts : Cells → List Text
texts cells = cut cells.lengths.items cells.text.items

-- each start is the place at which its piece begins
abbrev pub StartsRight : List ℕ → List ℕ → Type 0
StartsRight starts lengths = (b : ℕ) → b < length starts → slice_index_or starts b 0 ≡ sum (take (16 * b) lengths)

-- the lengths make up the text, and the starts are right
pub record AreCells (cells : Cells) : Type 0 where
  pub whole : sum cells.lengths.items ≡ length cells.text.items
  pub enough : length cells.lengths.items ≤ 16 * length cells.starts.items
  pub needed : 16 * length cells.starts.items < length cells.lengths.items + 16
  pub right : (b : ℕ) → 16 * b < length cells.lengths.items
      → slice_index_or cells.starts.items b 0 ≡ sum (take (16 * b) cells.lengths.items)

-- the objects of these names, each with the next values of this number
abbrev pub objects_of : ℕ → List Text → List Text → List ObjectValues
objects_of width [] values = []
objects_of width (name ∷ names) values = record { name = name; values = take width values } ∷ objects_of width names (drop width values)

abbrev pub table_of : List Text → List Text → List Text → ValueTable
table_of attributes names values = record { attributes = attributes; objects = objects_of (length attributes) names values }

-- names and values make up a table, within the limits
pub record AreTable (attributes names : List Text) (cells : Cells) : Type 0 where
  pub kept : AreCells cells
  pub even : length (texts cells) ≡ length names * length attributes
  pub differing : first_repeat attributes ≡ None
  pub few_attributes : length attributes ≤ MAX_ATTRIBUTES
  pub few_objects : length names ≤ MAX_OBJECTS

-- the values of the object in record i of the file were appended; the record has its name and a field for each attribute
pub record PutsObject (width i : ℕ) (fields : Record) (old new : Cells) : Type 0 where
  pub within : i ≤ MAX_OBJECTS + 1
  pub whole : length fields ≡ width + 1
  pub cells : AreCells new
  pub texts : texts new ≡ texts old ++ drop 1 fields
