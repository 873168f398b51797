-- The written CSV form of a table.
use Rattle.std.specs.Prelude.{ℕ, Bool, cond, List, [], ◌∷◌, ◌++◌, map, codes}
use Rattle.fca_model.specs.Sets.{Set}
use Rattle.fca_model.specs.Tables.{Text, NamedContext}
use Rattle.csv.specs.Writing.{default_writer, fields_text, row_text}
use Rattle.csv_context.specs.Records.{Record}

-- the field of a place: X for a cross, and nothing for none
abbrev pub cell_text : Bool → Text
cell_text cross = cond cross (codes "X") []

-- the text of the cells, a comma before each
abbrev pub cells_text : Set → List ℕ
cells_text row = fields_text default_writer (map cell_text row)

-- the record of the attribute names
abbrev pub header_record : NamedContext → Record
header_record t = codes "object" ∷ t.attributes

-- the record of an object
abbrev pub object_record : Text → Set → Record
object_record name row = name ∷ map cell_text row

-- the records of objects, one for each name and row
abbrev pub object_records : List Text → List Set → List Record
object_records [] rows = []
object_records (name ∷ names) [] = []
object_records (name ∷ names) (row ∷ rows) = object_record name row ∷ object_records names rows

-- all records
abbrev pub table_records : NamedContext → List Record
table_records t = header_record t ∷ object_records t.objects t.context.rows

-- the bytes of records: a field has quotes if it needs them, and a line feed ends each record
abbrev pub records_text : List Record → List ℕ
records_text [] = []
records_text (fields ∷ records) = row_text default_writer fields ++ records_text records

-- the bytes of the file
abbrev pub csv_text : NamedContext → List ℕ
csv_text t = records_text (table_records t)
