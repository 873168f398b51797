-- The form of a plan: what its records say of a table of values, or the first fault. Records and fields are numbered from 1, objects from
-- 0.
use Rattle.std.specs.Prelude.{ℕ, ◌+◌, ◌==◌, ◌&&◌, nat_lt, not, cond, List, [], ◌∷◌, ◌++◌, Option, Some, None, Result, Ok, Err, codes}
use Rattle.std.specs.Prelude.{length, drop, map, position, pos, slice_index_or, unwrap_or, bytes_eq}
use Rattle.std.specs.List.{list_any, position_from}
use Rattle.std.specs.Str.Lossy.{utf8_valid_len}
use Rattle.fca_model.specs.Tables.{Text}
use Rattle.fca_model.specs.declared.TheConstants.{MAX_ATTRIBUTES}
use Rattle.csv_context.specs.Records.{Record, csv_records}
use Rattle.text_pieces.specs.Telling.{then, unless}
use Rattle.value_tables.specs.Numbers.{number_of}
use Rattle.value_tables.specs.Values.{ValueTable, column}
use Rattle.value_tables.specs.Form.{first_bad, is_name}
use Rattle.value_tables.specs.declared.fields.FieldKind.{FieldKind}
use Rattle.value_tables.specs.declared.fields.FieldKind.TheVariants as field
use Rattle.context_scaling.specs.Scaling.{PlanRecord, is_scalable, made_names, made_name}
use Rattle.context_scaling.specs.declared.scales.Kind.{Kind}
use Rattle.context_scaling.specs.declared.scales.Kind.TheVariants as kind
use Rattle.context_scaling.specs.declared.scales.Relation.{Relation}
use Rattle.context_scaling.specs.declared.scales.Relation.TheVariants as relation
use Rattle.context_scaling.specs.declared.scales.ScaleValue.{ScaleValue}
use Rattle.context_scaling.specs.declared.scales.ScaleValue.TheVariants as value
use Rattle.context_scaling.specs.declared.PlanFault.{PlanFault}
use Rattle.context_scaling.specs.declared.PlanFault.TheVariants as fault

-- ---- the kind and the attribute

-- the kind that the word names
abbrev pub kind_of : Text → Option Kind
kind_of word =
    cond (bytes_eq word (codes "nominal")) (Some kind.Nominal)
    (cond (bytes_eq word (codes "ordinal")) (Some kind.Ordinal)
    (cond (bytes_eq word (codes "interordinal")) (Some kind.Interordinal) None))

-- the value, or the fault if there is none
abbrev pub or_fault : {X : Type 0} → PlanFault → Option X → Result X PlanFault
or_fault e None = Err e
or_fault e (Some x) = Ok x

-- a kind, with at least two fields behind it
abbrev pub kind_form : ℕ → Record → Result Kind PlanFault
kind_form i fields = cond (nat_lt (length fields) 3) (Err (fault.BadKind i))
    (or_fault (fault.BadKind i) (kind_of (slice_index_or fields 0 [])))

-- the place of the attribute with this name; a text that is no name has none
abbrev pub place_of : ValueTable → Text → Option ℕ
place_of t name = cond (is_name name) (position (bytes_eq name) t.attributes) None

-- ---- scale values

-- nominal scales have names as values, the others numbers
abbrev pub field_kind : Kind → FieldKind
field_kind kind.Nominal = field.Name
field_kind kind.Ordinal = field.Number
field_kind kind.Interordinal = field.Number

abbrev pub scale_value : Kind → Text → ScaleValue
scale_value kind.Nominal text = value.Text text
scale_value kind.Ordinal text = value.Number (unwrap_or (number_of text) (pos 0))
scale_value kind.Interordinal text = value.Number (unwrap_or (number_of text) (pos 0))

abbrev pub plan_record_of : Kind → ℕ → Record → PlanRecord
plan_record_of kind place fields = record {
  kind = kind;
  attribute = slice_index_or fields 1 [];
  place = place;
  values = map (scale_value kind) (drop 2 fields);
}

-- ---- the attributes that are made

-- field j of record i makes a name, which no attribute has so far
abbrev pub new_name : ℕ → ℕ → List Text → Text → Result Text PlanFault
new_name i j seen name = cond (is_name name && not (list_any (bytes_eq name) seen)) (Ok name) (Err (fault.BadName i j))

-- the names so far, and those that this relation makes with the scale values from field j on
abbrev pub add_names : ℕ → Text → Relation → ℕ → List Text → List ScaleValue → Result (List Text) PlanFault
add_names i attribute relation j seen [] = Ok seen
add_names i attribute relation j seen (v ∷ values) =
    then (new_name i j seen (made_name attribute relation v)) (λ name. add_names i attribute relation (j + 1) (seen ++ name ∷ []) values)

-- the names so far, and those of record i
abbrev pub names_form : ℕ → Kind → Text → List Text → List ScaleValue → Result (List Text) PlanFault
names_form i kind.Nominal attribute seen values = add_names i attribute relation.Equal 3 seen values
names_form i kind.Ordinal attribute seen values = add_names i attribute relation.AtMost 3 seen values
names_form i kind.Interordinal attribute seen values =
    then (add_names i attribute relation.AtMost 3 seen values) (λ seen. add_names i attribute relation.AtLeast 3 seen values)

-- ---- records

abbrev pub few_names : ℕ → List Text → PlanRecord → Result PlanRecord PlanFault
few_names i names s = cond (nat_lt MAX_ATTRIBUTES (length names)) (Err (fault.TooMany i)) (Ok s)

-- record i with this kind and this attribute, after attributes with these names
abbrev pub plan_record_form : ValueTable → ℕ → List Text → Record → PlanRecord → Result PlanRecord PlanFault
plan_record_form t i seen fields s =
    unless (first_bad (field_kind s.kind) 3 (drop 2 fields)) (fault.BadScale i)
    (unless (position_from (λ text. not (is_scalable s.kind text)) 0 (column t s.place)) (fault.BadValue i)
    (then (names_form i s.kind s.attribute seen s.values) (λ names. few_names i names s)))

-- record i, after attributes with these names
abbrev pub record_form : ValueTable → ℕ → List Text → Record → Result PlanRecord PlanFault
record_form t i seen fields =
    then (kind_form i fields) (λ kind.
    then (or_fault (fault.UnknownAttribute i) (place_of t (slice_index_or fields 1 []))) (λ place.
    plan_record_form t i seen fields (plan_record_of kind place fields)))

-- the plan so far, and the records from record i on
abbrev pub records_form : ValueTable → ℕ → List PlanRecord → List Record → Result (List PlanRecord) PlanFault
records_form t i plan [] = Ok plan
records_form t i plan (fields ∷ records) = then (record_form t i (made_names plan) fields)
    (λ s. records_form t (i + 1) (plan ++ s ∷ []) records)

-- the plan that the bytes of a file write for the table, or the first fault: bytes that are not UTF-8, then the first record at fault
unfoldable pub plan_form : ValueTable → List ℕ → Result (List PlanRecord) PlanFault
plan_form t bytes = cond (utf8_valid_len bytes == length bytes) (records_form t 1 [] (csv_records bytes))
    (Err (fault.NotUtf8 (utf8_valid_len bytes)))
