-- What the records of a file make: a plan, or a refusal, each as a property of the records.
--
-- The first record at fault decides, and of its faults the one that a record is tried for first. Records and fields are numbered from 1,
-- and objects from 0.
use Rattle.std.specs.Prelude.{◌≡◌, ◌≢◌, ◌⊎◌, ◌<◌, ◌≤◌, ℕ, ◌+◌, ◌-◌, ◌%◌, ◌&&◌, Bool, true, false, not, List, [], ◌∷◌, ◌++◌}
use Rattle.std.specs.Prelude.{Some, None, length, take, drop, map, slice_get, slice_index_or, bytes_eq}
use Rattle.std.specs.List.{list_any}
use Rattle.fca_model.specs.Tables.{Text}
use Rattle.fca_model.specs.declared.TheConstants.{MAX_ATTRIBUTES}
use Rattle.csv_context.specs.Records.{Record}
use Rattle.value_tables.specs.Form.{is_field, is_name}
use Rattle.value_tables.specs.Numbers.{number_of}
use Rattle.value_tables.specs.Values.{ValueTable, object_at, value_at}
use Rattle.context_scaling.specs.Back.{plan_record_at}
use Rattle.context_scaling.specs.PlanForm.{kind_of, scale_value, field_kind}
use Rattle.context_scaling.specs.Scaling.{PlanRecord, is_scalable, made_names, names_of}
use Rattle.context_scaling.specs.declared.scales.Kind.{Kind}
use Rattle.context_scaling.specs.declared.scales.Kind.TheVariants as kind
use Rattle.context_scaling.specs.declared.PlanFault.{PlanFault}
use Rattle.context_scaling.specs.declared.PlanFault.TheVariants as fault

-- record k, from 0
abbrev pub record_at : List Record → ℕ → Record
record_at records k = slice_index_or records k []

-- field j of a record
abbrev pub numbered_field : Record → ℕ → Text
numbered_field fields j = slice_index_or fields (j - 1) []

-- the record has fewer than three fields, or its first names no kind of scale
abbrev pub NamesNoKind : Record → Type 0
NamesNoKind fields = (length fields < 3) ⊎ (kind_of (numbered_field fields 1) ≡ None)

-- no attribute of the table has the name in field 2
abbrev pub NamesNoAttribute : ValueTable → Record → Type 0
NamesNoAttribute t fields = (m : ℕ) → slice_get t.attributes m ≢ Some (numbered_field fields 2)

-- the record names this kind, the first attribute of the table that has this name, and these scale values
pub record IsRecordOf (t : ValueTable) (s : PlanRecord) (fields : Record) : Type 0 where
  pub kind : kind_of (numbered_field fields 1) ≡ Some s.kind
  pub attribute : s.attribute ≡ numbered_field fields 2
  pub place : slice_get t.attributes s.place ≡ Some s.attribute
  pub first : (m : ℕ) → m < s.place → slice_get t.attributes m ≢ Some s.attribute
  pub values : s.values ≡ map (scale_value s.kind) (drop 2 fields)

-- field j is the first in the place of a scale value that is no scale value of this kind
pub record HasBadScale (kind : Kind) (fields : Record) (j : ℕ) : Type 0 where
  pub behind : 3 ≤ j
  pub inside : j ≤ length fields
  pub bad : is_field (field_kind kind) (numbered_field fields j) ≡ false
  pub first : (k : ℕ) → 3 ≤ k → k < j → is_field (field_kind kind) (numbered_field fields k) ≡ true

-- the scale compares numbers, and object r is the first whose value is neither empty nor a number
pub record HasBadValue (t : ValueTable) (s : PlanRecord) (r : ℕ) : Type 0 where
  pub numbers : s.kind ≢ kind.Nominal
  pub inside : r < length t.objects
  pub some : value_at s.place (object_at t r) ≢ []
  pub bad : number_of (value_at s.place (object_at t r)) ≡ None
  pub first : (q : ℕ) → q < r → is_scalable s.kind (value_at s.place (object_at t q)) ≡ true

-- text p of these is a name, and is none of those before it and none of those seen
abbrev pub is_new_name : List Text → List Text → ℕ → Bool
is_new_name seen names p =
    is_name (slice_index_or names p []) && not (list_any (bytes_eq (slice_index_or names p [])) (seen ++ take p names))

-- field j is the scale value of the first attribute that is made with a text that is no name, or with the name of an earlier one
pub record HasBadName (seen : List Text) (s : PlanRecord) (j : ℕ) : Type 0 where
  pub place : ℕ
  pub inside : place < length (names_of s)
  pub field : j ≡ place % length s.values + 3
  pub bad : is_new_name seen (names_of s) place ≡ false
  pub first : (q : ℕ) → q < place → is_new_name seen (names_of s) q ≡ true

-- with those seen, the scaling makes too many attributes
abbrev pub MakesTooMany : List Text → PlanRecord → Type 0
MakesTooMany seen s = MAX_ATTRIBUTES < length (seen ++ names_of s)

-- record i, behind the records of this plan, is at fault in this way
abbrev pub IsAtFault : ValueTable → ℕ → List PlanRecord → Record → PlanFault → Type 0
IsAtFault t i plan fields (fault.NotUtf8 at) = ⊥
IsAtFault t i plan fields (fault.BadKind k) = (k ≡ i) × NamesNoKind fields
IsAtFault t i plan fields (fault.UnknownAttribute k) = (k ≡ i) × NamesNoAttribute t fields
IsAtFault t i plan fields (fault.BadScale k j) = (k ≡ i) × ((s : PlanRecord) × IsRecordOf t s fields × HasBadScale s.kind fields j)
IsAtFault t i plan fields (fault.BadValue k r) = (k ≡ i) × ((s : PlanRecord) × IsRecordOf t s fields × HasBadValue t s r)
IsAtFault t i plan fields (fault.BadName k j) = (k ≡ i) × ((s : PlanRecord) × IsRecordOf t s fields × HasBadName (made_names plan) s j)
IsAtFault t i plan fields (fault.TooMany k) = (k ≡ i) × ((s : PlanRecord) × IsRecordOf t s fields × MakesTooMany (made_names plan) s)
IsAtFault t i plan fields fault.Memory = ⊥

-- which of its faults a record is tried for first
abbrev pub turn_of : PlanFault → ℕ
turn_of (fault.NotUtf8 at) = 0
turn_of (fault.BadKind k) = 1
turn_of (fault.UnknownAttribute k) = 2
turn_of (fault.BadScale k j) = 3
turn_of (fault.BadValue k r) = 4
turn_of (fault.BadName k j) = 5
turn_of (fault.TooMany k) = 6
turn_of fault.Memory = 7

-- record i, behind the records of this plan, is at fault in this way, and in none that it is tried for before
pub record IsFirstFault (t : ValueTable) (i : ℕ) (plan : List PlanRecord) (fields : Record) (e : PlanFault) : Type 0 where
  pub faulty : IsAtFault t i plan fields e
  pub first : (f : PlanFault) → turn_of f < turn_of e → IsAtFault t i plan fields f → ⊥

-- record i, behind the records of this plan, names this scaling, and is at fault in no way
pub record IsFaultless (t : ValueTable) (i : ℕ) (plan : List PlanRecord) (fields : Record) (s : PlanRecord) : Type 0 where
  pub named : IsRecordOf t s fields
  pub faultless : (e : PlanFault) → IsAtFault t i plan fields e → ⊥

-- the records make this plan: each, behind those before it, names its scaling and is at fault in no way
pub record MakePlan (t : ValueTable) (records : List Record) (plan : List PlanRecord) : Type 0 where
  pub size : length plan ≡ length records
  pub each : (k : ℕ) → k < length records → IsFaultless t (k + 1) (take k plan) (record_at records k) (plan_record_at plan k)

-- the records before this one make a plan, and this is the fault that it is refused for
pub record IsRefused (t : ValueTable) (records : List Record) (e : PlanFault) : Type 0 where
  pub front : List Record
  pub fields : Record
  pub rest : List Record
  pub plan : List PlanRecord
  pub whole : records ≡ front ++ fields ∷ rest
  pub made : MakePlan t front plan
  pub faulty : IsFirstFault t (length front + 1) plan fields e
