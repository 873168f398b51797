-- The written form of a table of values, and the tables of values that there are.
use Rattle.std.specs.Prelude.{◌≡◌, ◌≤◌, ℕ, List, [], ◌∷◌, None, true, map, codes, length, IsUtf8}
use Rattle.fca_model.specs.Names.{IsName}
use Rattle.fca_model.specs.Tables.{Text}
use Rattle.fca_model.specs.declared.TheConstants.{MAX_ATTRIBUTES, MAX_OBJECTS}
use Rattle.context_table.specs.Table.{first_repeat}
use Rattle.text_pieces.specs.Lists.{EachName}
use Rattle.csv_context.specs.Records.{Record}
use Rattle.csv_context.specs.Written.{records_text}
use Rattle.value_tables.specs.Values.{ObjectValues, ValueTable}
use Rattle.value_tables.specs.Form.{is_field}
use Rattle.value_tables.specs.declared.fields.FieldKind.TheVariants as kind

-- ---- tables of values

-- the text is a value: a name, or empty
pub record IsValue (text : Text) : Type 0 where
  pub admitted : is_field kind.Value text ≡ true
  pub utf8 : IsUtf8 text

-- each of the texts is a value
abbrev pub EachValue : List Text → Type 0
EachValue [] = Unit {0}
EachValue (text ∷ texts) = IsValue text × EachValue texts

-- the object has a name, and as many values as there are attributes
pub record IsObject (width : ℕ) (object : ObjectValues) : Type 0 where
  pub named : IsName object.name
  pub values : EachValue object.values
  pub whole : length object.values ≡ width

-- each of them is such an object
abbrev pub EachObject : ℕ → List ObjectValues → Type 0
EachObject width [] = Unit {0}
EachObject width (object ∷ objects) = IsObject width object × EachObject width objects

-- the attributes have names, which differ, and the objects a value for each; neither are too many
pub record IsValueTable (t : ValueTable) : Type 0 where
  pub attributes : EachName t.attributes
  pub differing : first_repeat t.attributes ≡ None
  pub objects : EachObject (length t.attributes) t.objects
  pub few_attributes : length t.attributes ≤ MAX_ATTRIBUTES
  pub few_objects : length t.objects ≤ MAX_OBJECTS

-- ---- their records

-- the record of an object: its name, and its values
abbrev pub object_record : ObjectValues → Record
object_record object = object.name ∷ object.values

-- the records of a table: a corner with the names of the attributes behind it, and the objects
abbrev pub value_records : ValueTable → List Record
value_records t = (codes "object" ∷ t.attributes) ∷ map object_record t.objects

-- the bytes of the file
abbrev pub values_text : ValueTable → List ℕ
values_text t = records_text (value_records t)
