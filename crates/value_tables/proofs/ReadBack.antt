-- A table of values that is written reads back. The records of the text are the records that were written, and the form takes each field
-- for what it was written for.
use Rattle.std.proofs.Common.{◌≡◌, ◌∙◌, ◌≤◌, ◌+◌, ◌==◌, ◌++◌, ◌∷◌, [], ℕ, List, true, false, None, Ok, length, map, codes, refl, ap}
use Rattle.std.proofs.Common.{append_assoc, eq-eqb, ne_eqb, arith}
use Rattle.std.specs.Prelude.{nat_lt}
use Rattle.std.proofs.lemmas.Bool.{le-ltb}
use Rattle.std.proofs.lemmas.List.{append-nil}
use Rattle.std.proofs.lemmas.Str.{utf8_valid_len-IsUtf8}
use Rattle.std.specs.Str.Lossy.{utf8_valid_len}
use Rattle.fca_model.specs.Tables.{Text}
use Rattle.fca_model.specs.declared.TheConstants.{MAX_ATTRIBUTES, MAX_OBJECTS}
use Rattle.text_pieces.specs.Lists.{EachName}
use Rattle.csv.specs.Reading.{strip_bom}
use Rattle.csv.specs.Records.{AllText}
use Rattle.csv_context.specs.Records.{Record}
use Rattle.csv_context.proofs.ReadBack.{AllText-names, EachFilled, csv_records-records_text, object-text}
use Rattle.csv_context.proofs.WrittenTexts.{EachText, IsUtf8-records_text}
use Rattle.value_tables.specs.Values.{ObjectValues, ValueTable}
use Rattle.value_tables.specs.Form.{first_bad, objects_form, table_form, values_form}
use Rattle.value_tables.specs.Written.{EachObject, EachValue, IsValueTable, object_record, value_records, values_text}
use Rattle.value_tables.specs.declared.fields.FieldKind.TheVariants as kind

-- ---- the form of the records

names-good : (names : List Text) (j : ℕ) → EachName names → first_bad kind.Name j names ≡ None
names-good [] j named = refl
names-good (name ∷ names) j named = rw named.0.faultless (names-good names (j + 1) named.1)

values-good : (values : List Text) (j : ℕ) → EachValue values → first_bad kind.Value j values ≡ None
values-good [] j each = refl
values-good (text ∷ texts) j each = rw each.0.admitted (values-good texts (j + 1) each.1)

objects-back : (width i : ℕ) (seen objects : List ObjectValues) → EachObject width objects → i + length objects ≤ MAX_OBJECTS + 2
    → objects_form width i seen (map object_record objects) ≡ Ok (seen ++ objects)
objects-back width i seen [] each few = rw (append-nil seen) refl
objects-back width i seen (object ∷ objects) each few =
    let within : nat_lt (MAX_OBJECTS + 1) i ≡ false = le-ltb (MAX_OBJECTS + 1) i (omega arith) in
    let size : length object.values ≡ width = each.0.whole in
    let whole : length (object_record object) == width + 1 ≡ true = eq-eqb _ _ (omega arith) in
    let rest = objects-back width (i + 1) (seen ++ object ∷ []) objects each.1 (omega arith) in
    rw (within, whole, each.0.named.faultless, values-good object.values 2 each.0.values)
    (rest ∙ rw (append_assoc seen (object ∷ []) objects) refl)

table-back : (t : ValueTable) → IsValueTable t → table_form (value_records t) ≡ Ok t
table-back t table =
    let width : length t.attributes ≤ MAX_ATTRIBUTES = table.few_attributes in
    let few : length t.objects ≤ MAX_OBJECTS = table.few_objects in
    let within : nat_lt (MAX_ATTRIBUTES + 1) (length (codes "object" ∷ t.attributes)) ≡ false = le-ltb _ _ (omega arith) in
    let some : length (codes "object" ∷ t.attributes) == 0 ≡ false = ne_eqb _ _ (λ e. omega (arith, e)) in
    rw (
      within,
      some,
      names-good t.attributes 2 table.attributes,
      table.differing,
      objects-back (length t.attributes) 2 [] t.objects table.objects (omega arith),
    ) refl

-- ---- the records of the text

EachFilled-objects : (objects : List ObjectValues) → EachFilled (map object_record objects)
EachFilled-objects [] = tt
EachFilled-objects (object ∷ objects) = EachFilled-objects objects

AllText-values : (values : List Text) → EachValue values → AllText values
unfolding AllText
AllText-values [] each = tt
AllText-values (text ∷ texts) each = (each.0.utf8, AllText-values texts each.1)

EachText-objects : (width : ℕ) (objects : List ObjectValues) → EachObject width objects → EachText (map object_record objects)
unfolding AllText
EachText-objects width [] each = tt
EachText-objects width (object ∷ objects) each =
    ((each.0.named.utf8, AllText-values object.values each.0.values), EachText-objects width objects each.1)

strip_bom-text : (t : ValueTable) → strip_bom (values_text t) ≡ values_text t
unfolding strip_bom
strip_bom-text t = refl

pub values_form-values_text : (t : ValueTable) → IsValueTable t → values_form (values_text t) ≡ Ok t
unfolding values_form AllText
values_form-values_text t table =
    let header : AllText (codes "object" ∷ t.attributes) = (object-text, AllText-names t.attributes table.attributes) in
    let texts : EachText (value_records t) = (header, EachText-objects (length t.attributes) t.objects table.objects) in
    let whole : utf8_valid_len (values_text t) == length (values_text t) ≡ true =
    eq-eqb _ _ (utf8_valid_len-IsUtf8 (values_text t) (IsUtf8-records_text (value_records t) texts)) in
    rw whole (ap table_form (csv_records-records_text (value_records t) (EachFilled-objects t.objects) (strip_bom-text t)) ∙ table-back t table)
