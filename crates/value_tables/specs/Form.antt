-- The form of a table of values: what its records say, or the first fault. Records and fields are numbered from 1.
use Rattle.std.specs.Prelude.{ℕ, ◌+◌, ◌==◌, ◌||◌, nat_lt, Bool, cond, List, [], ◌∷◌, ◌++◌, Option, Some, None, is_some, is_none, Result, Ok}
use Rattle.std.specs.Prelude.{Err, length, drop, slice_index_or}
use Rattle.std.specs.Str.Lossy.{utf8_valid_len}
use Rattle.fca_model.specs.Tables.{Text}
use Rattle.fca_model.specs.Names.{name_fault}
use Rattle.fca_model.specs.declared.TheConstants.{MAX_ATTRIBUTES, MAX_OBJECTS}
use Rattle.context_table.specs.Table.{first_repeat}
use Rattle.csv_context.specs.Records.{Record, csv_records}
use Rattle.text_pieces.specs.Telling.{then, unless}
use Rattle.value_tables.specs.Numbers.{number_of}
use Rattle.value_tables.specs.Values.{ObjectValues, ValueTable}
use Rattle.value_tables.specs.declared.fields.FieldKind.{FieldKind}
use Rattle.value_tables.specs.declared.fields.FieldKind.TheVariants as kind
use Rattle.value_tables.specs.declared.ValuesFault.{ValuesFault}
use Rattle.value_tables.specs.declared.ValuesFault.TheVariants as fault

-- ---- fields

abbrev pub is_name : Text → Bool
is_name field = is_none (name_fault field)

-- the field is of this kind: a name; a name or nothing; or a number
abbrev pub is_field : FieldKind → Text → Bool
is_field kind.Name field = is_name field
is_field kind.Value field = (length field == 0) || is_name field
is_field kind.Number field = is_some (number_of field)

-- the first field that is not of this kind, of those from field j on
abbrev pub first_bad : FieldKind → ℕ → List Text → Option ℕ
first_bad kind j [] = None
first_bad kind j (field ∷ fields) = cond (is_field kind field) (first_bad kind (j + 1) fields) (Some j)

-- ---- attributes

-- names that differ, from field 2 of record 1 on
abbrev pub names_form : List Text → Result (List Text) ValuesFault
names_form names =
    unless (first_bad kind.Name 2 names) (fault.BadField 1)
    (unless (first_repeat names) (λ place. fault.DuplicateAttribute (place + 2))
    (Ok names))

-- record 1: a corner, of which nothing is kept, and the names of the attributes
abbrev pub header_form : Record → Result (List Text) ValuesFault
header_form fields =
    cond (nat_lt (MAX_ATTRIBUTES + 1) (length fields)) (Err (fault.TooMany 1))
    (cond (length fields == 0) (Err (fault.RaggedRecord 1))
    (names_form (drop 1 fields)))

-- ---- objects

abbrev pub object_of : Record → ObjectValues
object_of fields = record { name = slice_index_or fields 0 []; values = drop 1 fields }

-- the first field of an object that is no name, in field 1, or no value, behind it
abbrev pub bad_field : Record → Option ℕ
bad_field fields = cond (is_name (slice_index_or fields 0 [])) (first_bad kind.Value 2 (drop 1 fields)) (Some 1)

-- record i: a name, and a value for each attribute
abbrev pub object_form : ℕ → ℕ → Record → Result ObjectValues ValuesFault
object_form width i fields =
    cond (nat_lt (MAX_OBJECTS + 1) i) (Err (fault.TooMany i))
    (cond (length fields == width + 1) (unless (bad_field fields) (fault.BadField i) (Ok (object_of fields)))
    (Err (fault.RaggedRecord i)))

-- the objects so far, followed by those of the records from record i on
abbrev pub objects_form : ℕ → ℕ → List ObjectValues → List Record → Result (List ObjectValues) ValuesFault
objects_form width i objects [] = Ok objects
objects_form width i objects (fields ∷ records) =
    then (object_form width i fields) (λ object. objects_form width (i + 1) (objects ++ object ∷ []) records)

-- ---- the table

-- the table that the records write
abbrev pub table_form : List Record → Result ValueTable ValuesFault
table_form [] = Err fault.NoHeader
table_form (fields ∷ records) =
    then (header_form fields) (λ attributes.
    then (objects_form (length attributes) 2 [] records) (λ objects.
    Ok (record { attributes = attributes; objects = objects })))

-- the table that the bytes of a file write, or the first fault: bytes that are not UTF-8, then the first record at fault
unfoldable pub values_form : List ℕ → Result ValueTable ValuesFault
values_form bytes = cond (utf8_valid_len bytes == length bytes) (table_form (csv_records bytes))
    (Err (fault.NotUtf8 (utf8_valid_len bytes)))
