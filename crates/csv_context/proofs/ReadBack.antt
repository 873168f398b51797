-- Reading what was written gives the table without its title. The records of the text are the records that were written: each is read
-- back as it is (the library's lemma), and the text begins with no byte order mark, since its first byte is the o of `object`. The form
-- then takes each field for what it was written for.
use Rattle.std.proofs.Common.{◌≡◌, ◌∙◌, ◌<◌, ◌≤◌, ◌+◌, ◌==◌, ◌++◌, ◌∷◌, [], ℕ, zero, suc, List, true, false, Some, None, Result, Ok, length}
use Rattle.std.proofs.Common.{map, codes, bytes_eq, refl, sym, ap, subst, append_assoc, length-append, eq-eqb, inl, inr, arith}
use Rattle.std.specs.Prelude.{nat_lt}
use Rattle.std.proofs.lemmas.Bool.{cases_Bool, le-ltb}
use Rattle.std.proofs.lemmas.List.{append-nil, length-map}
use Rattle.std.proofs.lemmas.Str.{IsUtf8-nil, utf8_valid_len-IsUtf8}
use Rattle.std.specs.Str.{IsUtf8}
use Rattle.std.specs.List.{list_any}
use Rattle.std.specs.Str.Lossy.{utf8_valid_len}
use Rattle.fca_model.specs.Sets.{Set}
use Rattle.fca_model.specs.Tables.{Text, NamedContext}
use Rattle.fca_model.specs.declared.TheConstants.{MAX_ATTRIBUTES, MAX_OBJECTS}
use Rattle.context_table.specs.Table.{IsTable, repeat_from, untitled_context}
use Rattle.text_pieces.specs.Lists.{EachName, EachWide}
use Rattle.text_pieces.proofs.ItemLemmas.{EachWide-from_All}
use Rattle.text_pieces.proofs.TextLemmas.{IsUtf8-one}
use Rattle.csv.proofs.RoundTrip.{read-write}
use Rattle.csv.specs.Machine.{next_record}
use Rattle.csv.specs.Reading.{default_config, records, records_from, strip_bom}
use Rattle.csv.specs.Records.{AllText}
use Rattle.csv.specs.Writing.{default_writer, row_text}
use Rattle.csv.specs.declared.parser.State.TheVariants as st
use lib.Utf8.{encode}
use Rattle.csv_context.specs.Records.{Record, csv_records}
use Rattle.csv_context.specs.Form.{attributes_form, row_form, objects_form, table_form, csv_form}
use Rattle.csv_context.specs.Written.{cell_text, header_record, object_record, object_records, table_records, records_text, csv_text}
use Rattle.csv_context.specs.declared.CsvFault.{CsvFault}
use Rattle.csv_context.proofs.WrittenTexts.{EachText, IsUtf8-records_text}

-- ---- the records of the text

-- each of these records has a field
abbrev pub EachFilled : List Record → Type 0
EachFilled [] = Unit {0}
EachFilled ([] ∷ records) = ⊥
EachFilled ((field ∷ fields) ∷ records) = EachFilled records

records_from-records_text : (n : ℕ) (records : List Record) → length records ≤ n → EachFilled records
    → records_from default_config n st.StartRecord (records_text records) ≡ records
unfolding records_from next_record
records_from-records_text zero [] few filled = refl
records_from-records_text zero (fields ∷ records) few filled = absurd (omega arith)
records_from-records_text (suc n) [] few filled = refl
records_from-records_text (suc n) ([] ∷ records) few filled = absurd filled
records_from-records_text (suc n) ((field ∷ fields) ∷ records) few filled =
    let less : length records ≤ n = omega arith in
    rw (read-write (field ∷ fields) (records_text records)) (ap (λ rest. (field ∷ fields) ∷ rest) (records_from-records_text n records less filled))

row_text-some : (fields : Record) → 0 < length (row_text default_writer fields)
row_text-some fields = simp length-append (omega arith)

records_text-long : (records : List Record) → length records ≤ length (records_text records)
records_text-long [] = omega arith
records_text-long (fields ∷ records) =
    let more = row_text-some fields in
    let rest = records_text-long records in
    rw (length-append (row_text default_writer fields) (records_text records)) (omega arith)

EachFilled-objects : (names : List Text) (rows : List Set) → EachFilled (object_records names rows)
EachFilled-objects [] rows = tt
EachFilled-objects (name ∷ names) [] = tt
EachFilled-objects (name ∷ names) (row ∷ rows) = EachFilled-objects names rows

strip_bom-text : (t : NamedContext) → strip_bom (csv_text t) ≡ csv_text t
unfolding strip_bom
strip_bom-text t = refl

pub csv_records-records_text : (all : List Record) → EachFilled all → strip_bom (records_text all) ≡ records_text all → csv_records (records_text all) ≡ all
csv_records-records_text all filled unmarked =
    let long = records_text-long all in
    ap (records default_config) unmarked ∙ records_from-records_text (length (records_text all) + 1) all (omega arith) filled

csv_records-csv_text : (t : NamedContext) → csv_records (csv_text t) ≡ table_records t
csv_records-csv_text t = csv_records-records_text (table_records t) (EachFilled-objects t.objects t.context.rows) (strip_bom-text t)

-- ---- the texts

pub AllText-names : (names : List Text) → EachName names → AllText names
unfolding AllText
AllText-names [] named = tt
AllText-names (name ∷ names) named = (named.0.utf8, AllText-names names named.1)

pub object-text : IsUtf8 (codes "object")
unfolding encode
object-text = (codes "object", (refl, refl))

AllText-cells : (row : Set) → AllText (map cell_text row)
unfolding AllText
AllText-cells [] = tt
AllText-cells (true ∷ row) = (IsUtf8-one 88 (omega arith), AllText-cells row)
AllText-cells (false ∷ row) = (IsUtf8-nil, AllText-cells row)

EachText-objects : (names : List Text) (rows : List Set) → EachName names → EachText (object_records names rows)
unfolding AllText
EachText-objects [] rows named = tt
EachText-objects (name ∷ names) [] named = tt
EachText-objects (name ∷ names) (row ∷ rows) named = ((named.0.utf8, AllText-cells row), EachText-objects names rows named.1)

-- ---- the form of the records

attributes-back : (seen names : List Text) (i j : ℕ) → EachName names → repeat_from seen i names ≡ None
    → attributes_form seen j names ≡ Ok (seen ++ names)
attributes-back seen [] i j named new = rw (append-nil seen) refl
attributes-back seen (name ∷ names) i j named new = elim (cases_Bool (list_any (bytes_eq name) seen)) [
  | inl is ↦ let found : Some i ≡ None = rw is at new in cc found
  | inr isnt ↦
      let later : repeat_from (seen ++ name ∷ []) (i + 1) names ≡ None = rw isnt at new in
      rw (named.0.faultless, isnt) (attributes-back (seen ++ name ∷ []) names (i + 1) (j + 1) named.1 later
      ∙ rw (append_assoc seen (name ∷ []) names) refl)
]

row-back : (i j : ℕ) (seen row : Set) → row_form i j seen (map cell_text row) ≡ Ok (seen ++ row)
row-back i j seen [] = rw (append-nil seen) refl
row-back i j seen (true ∷ row) = row-back i (j + 1) (seen ++ true ∷ []) row ∙ rw (append_assoc seen (true ∷ []) row) refl
row-back i j seen (false ∷ row) = row-back i (j + 1) (seen ++ false ∷ []) row ∙ rw (append_assoc seen (false ∷ []) row) refl

objects-back : (width i : ℕ) (seen names : List Text) (above rows : List Set) → EachName names → EachWide width rows
    → length names ≡ length rows
    → i + length names ≤ MAX_OBJECTS + 2 → objects_form width i (seen, above) (object_records names rows) ≡ Ok
    (seen ++ names, above ++ rows)
objects-back width i seen [] above [] named wide same few = rw (append-nil seen, append-nil above) refl
objects-back width i seen [] above (row ∷ rows) named wide same few = absurd (omega arith)
objects-back width i seen (name ∷ names) above [] named wide same few = absurd (omega arith)
objects-back width i seen (name ∷ names) above (row ∷ rows) named wide same few =
    let within : nat_lt (MAX_OBJECTS + 1) i ≡ false = le-ltb (MAX_OBJECTS + 1) i (omega arith) in
    let cells : length (map cell_text row) ≡ length row = length-map row cell_text in
    let size : length row ≡ width = wide.0 in
    let whole : length (object_record name row) == width + 1 ≡ true = eq-eqb _ _ (omega arith) in
    let rest = objects-back width (i + 1) (seen ++ name ∷ []) names (above ++ row ∷ []) rows named.1 wide.1 (omega arith) (omega arith) in
    rw (within, whole, named.0.faultless, row-back i 2 [] row)
    (rest ∙ rw (append_assoc seen (name ∷ []) names, append_assoc above (row ∷ []) rows) refl)

table-back : (t : NamedContext) → IsTable t → EachName t.objects → EachName t.attributes
    → table_form (table_records t) ≡ Ok (untitled_context t)
table-back t table objects attributes =
    let few : length t.objects ≤ MAX_OBJECTS = table.few_objects in
    let width : length t.attributes ≡ t.context.width = table.each_attribute in
    let narrow : t.context.width ≤ MAX_ATTRIBUTES = table.few_attributes in
    let within : nat_lt MAX_ATTRIBUTES (length t.attributes) ≡ false = le-ltb MAX_ATTRIBUTES (length t.attributes) (omega arith) in
    let P : ℕ → Type 0 = λ n. EachWide n t.context.rows in
    let wide : EachWide (length t.attributes) t.context.rows =
    subst P (sym width) (EachWide-from_All t.context.width t.context.rows table.even) in
    let of_width : ℕ → Result NamedContext CsvFault =
    λ n. Ok (record {
      title = None;
      objects = t.objects;
      attributes = t.attributes;
      context = record { width = n; rows = t.context.rows };
    }) in
    rw (
      within,
      attributes-back [] t.attributes 0 2 attributes table.differing,
      objects-back (length t.attributes) 2 [] t.objects [] t.context.rows objects wide table.each_object (omega arith),
    )
    (ap of_width width)

-- reading what was written gives the table without its title
pub csv_form-csv_text : (t : NamedContext) → IsTable t → EachName t.objects → EachName t.attributes
    → csv_form (csv_text t) ≡ Ok (untitled_context t)
unfolding csv_form AllText
csv_form-csv_text t table objects attributes =
    let header : AllText (header_record t) = (object-text, AllText-names t.attributes attributes) in
    let texts : EachText (table_records t) = (header, EachText-objects t.objects t.context.rows objects) in
    let whole : utf8_valid_len (csv_text t) == length (csv_text t) ≡ true =
    eq-eqb _ _ (utf8_valid_len-IsUtf8 (csv_text t) (IsUtf8-records_text (table_records t) texts)) in
    rw whole (ap table_form (csv_records-csv_text t) ∙ table-back t table objects attributes)
