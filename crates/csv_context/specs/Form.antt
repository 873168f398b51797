-- The CSV form of a table: what its records say, or the first fault. Records and fields are numbered from 1.
use Rattle.std.specs.Prelude.{◌≡◌, ◌⊎◌, MatchResult, ℕ, ◌+◌, ◌==◌, ◌||◌, nat_lt, Bool, true, false, cond, List, [], ◌∷◌, ◌++◌, Option, Some}
use Rattle.std.specs.Prelude.{None, Result, Ok, Err, length, bytes_eq}
use Rattle.std.specs.List.{list_any}
use Rattle.std.specs.Str.Lossy.{utf8_valid_len}
use Rattle.fca_model.specs.Sets.{Set}
use Rattle.fca_model.specs.Tables.{Text, NamedContext}
use Rattle.fca_model.specs.Names.{name_fault}
use Rattle.fca_model.specs.declared.TheConstants.{MAX_ATTRIBUTES, MAX_OBJECTS}
use Rattle.fca_model.specs.declared.names.NameFault.{NameFault}
use Rattle.fca_model.specs.declared.names.NameFault.TheVariants as name
use Rattle.text_pieces.specs.Blanks.{trim}
use Rattle.text_pieces.specs.Telling.{then}
use Rattle.csv_context.specs.Records.{Record, csv_records}
use Rattle.csv_context.specs.declared.read.Object.{Object}
use Rattle.csv_context.specs.declared.CsvFault.{CsvFault}
use Rattle.csv_context.specs.declared.CsvFault.TheVariants as fault

-- ---- names

abbrev pub name_by : ℕ → ℕ → Text → Option NameFault → Result Text CsvFault
name_by i j field None = Ok field
name_by i j field (Some name.Empty) = Err (fault.EmptyName i j)
name_by i j field (Some name.Long) = Err (fault.LongName i j)
name_by i j field (Some name.Line) = Err (fault.BadName i j)
name_by i j field (Some name.Memory) = Err fault.Memory

-- field j of record i is a name
abbrev pub name_form : ℕ → ℕ → Text → Result Text CsvFault
name_form i j field = name_by i j field (name_fault field)

abbrev pub new_name : List Text → ℕ → Result Text CsvFault → Result Text CsvFault
new_name seen j (Ok name) = cond (list_any (bytes_eq name) seen) (Err (fault.DuplicateAttribute j)) (Ok name)
new_name seen j (Err e) = Err e

-- field j of record 1 is a name that is none of those seen
abbrev pub attribute_form : List Text → ℕ → Text → Result Text CsvFault
attribute_form seen j field = new_name seen j (name_form 1 j field)

-- the names seen so far, followed by those in the fields from field j on
abbrev pub attributes_form : List Text → ℕ → List Text → Result (List Text) CsvFault
attributes_form seen j [] = Ok seen
attributes_form seen j (field ∷ fields) = then (attribute_form seen j field) (λ name. attributes_form (seen ++ name ∷ []) (j + 1) fields)

-- record 1: a corner, of which nothing is kept, and the names of the attributes. No record is without a field.
abbrev pub header_form : Record → Result (List Text) CsvFault
header_form [] = Err fault.NoHeader
header_form (corner ∷ fields) = cond (nat_lt MAX_ATTRIBUTES (length fields)) (Err fault.TooManyAttributes) (attributes_form [] 2 fields)

-- ---- objects

-- a cross, or none
abbrev pub cross_of : Text → Option Bool
cross_of [] = Some false
cross_of (b ∷ []) = cond ((b == 88) || (b == 120) || (b == 49)) (Some true) (cond ((b == 46) || (b == 48)) (Some false) None)
cross_of (b ∷ c ∷ cell) = None

abbrev pub cell_by : ℕ → ℕ → Option Bool → Result Bool CsvFault
cell_by i j None = Err (fault.BadCell i j)
cell_by i j (Some cross) = Ok cross

-- field j of record i is a cell; blanks at its ends do not count
abbrev pub cell_form : ℕ → ℕ → Text → Result Bool CsvFault
cell_form i j field = cell_by i j (cross_of (trim field))

-- the cells so far, followed by those in the fields of record i from field j on
abbrev pub row_form : ℕ → ℕ → Set → List Text → Result Set CsvFault
row_form i j row [] = Ok row
row_form i j row (field ∷ fields) = then (cell_form i j field) (λ cross. row_form i (j + 1) (row ++ cross ∷ []) fields)

abbrev pub entry_form : ℕ → Record → Result Object CsvFault
entry_form i [] = Err (fault.RaggedRecord i)
entry_form i (field ∷ fields) =
    then (name_form i 1 field) (λ name.
    then (row_form i 2 [] fields) (λ row.
    Ok (record { name = name; row = row })))

-- record i is an object with its row: as many fields as record 1 has, the name and then the cells
abbrev pub object_form : ℕ → ℕ → Record → Result Object CsvFault
object_form width i fields =
    cond (nat_lt (MAX_OBJECTS + 1) i)
    (Err fault.TooManyObjects)
    (cond (length fields == width + 1) (entry_form i fields) (Err (fault.RaggedRecord i)))

-- the names and the rows so far, followed by those of the records from record i on
abbrev pub objects_form : ℕ → ℕ → List Text × List Set → List Record → Result (List Text × List Set) CsvFault
objects_form width i objects [] = Ok objects
objects_form width i objects (fields ∷ records) =
    then (object_form width i fields) (λ object. objects_form width (i + 1)
    (objects.0 ++ object.name ∷ [], objects.1 ++ object.row ∷ []) records)

-- ---- the table

-- the table that the records write; it has no title
abbrev pub table_form : List Record → Result NamedContext CsvFault
table_form [] = Err fault.NoHeader
table_form (fields ∷ records) =
    then (header_form fields) (λ attributes.
    then (objects_form (length attributes) 2 ([], []) records) (λ objects.
    Ok (record {
      title = None;
      objects = objects.0;
      attributes = attributes;
      context = record { width = length attributes; rows = objects.1 };
    })))

-- the table that the bytes of a file write, or the first fault: bytes that are not UTF-8, then the first record at fault
unfoldable pub csv_form : List ℕ → Result NamedContext CsvFault
csv_form bytes =
    cond (utf8_valid_len bytes == length bytes)
    (table_form (csv_records bytes))
    (Err (fault.NotUtf8 (utf8_valid_len bytes)))
