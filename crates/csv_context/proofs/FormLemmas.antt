-- One field, and one record, more. What is left of a record after a field is one field shorter, and the form goes on from there with what
-- the field says.
use Rattle.std.proofs.Common.{◌≡◌, ◌∙◌, ◌<◌, ◌+◌, ◌-◌, ◌++◌, ◌∷◌, [], ℕ, zero, suc, Bool, true, false, cond, List, Some, None, Result, Ok}
use Rattle.std.proofs.Common.{Err, drop, length, replicate, set, slice_get, bytes_eq, inl, inr, refl, sym, ap, subst, length-append}
use Rattle.std.proofs.Common.{append_assoc, arith}
use Rattle.std.specs.Prelude.{◌⊎◌, IsErr, IsErrAnd}
use Rattle.fca_model.specs.Sets.{Set}
use Rattle.fca_model.specs.Tables.{Text}
use Rattle.std.proofs.lemmas.Bool.{cases_Bool}
use Rattle.std.proofs.lemmas.List.{append-nil}
use Rattle.std.proofs.Math.Seq.{set-append_seam}
use Rattle.std.specs.List.{list_any}
use Rattle.context_table.specs.Table.{first_repeat, repeat_from}
use Rattle.text_pieces.proofs.ItemLemmas.{drop-item}
use Rattle.csv_context.specs.Records.{Record}
use Rattle.text_pieces.specs.Telling.{TellsBy, then}
use Rattle.csv_context.specs.Form.{attribute_form, attributes_form, cell_form, row_form, object_form, objects_form}
use Rattle.csv_context.specs.Cells.{ReadTo}
use Rattle.csv_context.specs.declared.read.Object.{Object}
use Rattle.csv_context.specs.declared.CsvFault.{CsvFault}
use Rattle.csv_context.specs.declared.CsvFault.TheVariants as fault

-- ---- a fault that is passed on as it is

pub Err-passed : {X : Type 0} (told : Result X CsvFault) (e : CsvFault) → IsErr told × IsErrAnd told (λ passed. passed ≡ e) → told ≡ Err e
Err-passed (Ok x) e passed = cc passed.0
Err-passed (Err f) e passed = ap Err passed.1

pub TellsBy-passed : {X Y : Type 0} (view : X → Y) (told : Result X CsvFault) (form : Result Y CsvFault) (e : CsvFault)
    → IsErr told × IsErrAnd told (λ passed. passed ≡ e) → (e ≡ fault.Memory) ⊎ (form ≡ Err e) → TellsBy fault.Memory view told form
TellsBy-passed view (Ok x) form e passed why = cc passed.0
TellsBy-passed view (Err f) form e passed why = rw passed.1 why

-- ---- names of attributes

module _ (seen : List Text) (fields : Record) (place : ℕ) (field : Text) (at : Some field ≡ slice_get fields place) where
  pub attributes_form-Ok : (name : Text) → attribute_form seen (place + 1) field ≡ Ok name
      → attributes_form seen (place + 1) (drop place fields) ≡ attributes_form (seen ++ name ∷ []) (place + 1 + 1) (drop (place + 1) fields)
  attributes_form-Ok name is = rw (drop-item fields place field (sym at), is) refl

  pub attributes_form-Err : (e : CsvFault) → attribute_form seen (place + 1) field ≡ Err e
      → attributes_form seen (place + 1) (drop place fields) ≡ Err e
  attributes_form-Err e is = rw (drop-item fields place field (sym at), is) refl

repeat_from-append : (before names : List Text) (i : ℕ) (name : Text) → repeat_from before i names ≡ None
    → list_any (bytes_eq name) (before ++ names) ≡ false
    → repeat_from before i (names ++ name ∷ []) ≡ None
repeat_from-append before [] i name none new =
    let unseen : list_any (bytes_eq name) before ≡ false = rw append-nil at new in
    rw unseen refl
repeat_from-append before (x ∷ names) i name none new = elim (cases_Bool (list_any (bytes_eq x) before)) [
  | inl is ↦ let found : Some i ≡ None = rw is at none in cc found
  | inr isnt ↦
      let later : repeat_from (before ++ x ∷ []) (i + 1) names ≡ None = rw isnt at none in
      let unseen : list_any (bytes_eq name) ((before ++ x ∷ []) ++ names) ≡ false = rw (append_assoc before (x ∷ []) names) new in
      rw isnt (repeat_from-append (before ++ x ∷ []) names (i + 1) name later unseen)
]

-- a name that was not seen is no repeat
pub first_repeat-append : (names : List Text) (name : Text) → first_repeat names ≡ None → list_any (bytes_eq name) names ≡ false
    → first_repeat (names ++ name ∷ []) ≡ None
first_repeat-append names name none new = repeat_from-append [] names 0 name none new

-- ---- one cell more at the front of a row

pub set-front : (front : Set) (i k : ℕ) → length front ≡ i
    → set (front ++ replicate (suc k) false) i true ≡ front ++ true ∷ [] ++ replicate k false
set-front front i k placed =
    let P : ℕ → Type 0 = λ j. set (front ++ replicate (suc k) false) j true ≡ front ++ true ∷ [] ++ replicate k false in
    subst P placed (set-append_seam front false (replicate k false) true ∙ sym (append_assoc front (true ∷ []) (replicate k false)))

-- ---- the cells of an object

pub ReadTo-zero : (i width : ℕ) (cells : Record) → ReadTo i width cells (replicate width false) 0
ReadTo-zero i width cells =
    let all : width - 0 ≡ width = omega arith in
    record { front = []; placed = refl; filled = rw all refl; says = refl }

module _ (i width : ℕ) (cells : Record) (row : Set) (place : ℕ) (field : Text) (at : Some field ≡ slice_get cells place)
    (r : ReadTo i width cells row place) where
  says-next : row_form i 2 [] cells ≡ then (cell_form i (place + 2) field)
      (λ cross. row_form i (place + 2 + 1) (r.front ++ cross ∷ []) (drop (place + 1) cells))
  says-next = r.says ∙ rw (drop-item cells place field (sym at)) refl

  says-more : (cross : Bool) → cell_form i (place + 2) field ≡ Ok cross
      → row_form i 2 [] cells ≡ row_form i (place + 1 + 2) (r.front ++ cross ∷ []) (drop (place + 1) cells)
  says-more cross is =
      let next : place + 2 + 1 ≡ place + 1 + 2 = omega arith in
      says-next ∙ rw (is, next) refl

  filled-more : place < width → (cross : Bool) → cond cross (set row place true) row ≡ r.front ++ cross ∷ [] ++ replicate
      (width - (place + 1)) false
  filled-more below true =
      let one : width - place ≡ suc (width - (place + 1)) = omega arith in
      ap (λ (x : Set). set x place true) r.filled ∙ rw one (set-front r.front place (width - (place + 1)) r.placed)
  filled-more below false =
      let one : width - place ≡ suc (width - (place + 1)) = omega arith in
      r.filled ∙ rw one (sym (append_assoc r.front (false ∷ []) (replicate (width - (place + 1)) false)))

  pub ReadTo-more : (cross : Bool) → place < width → cell_form i (place + 2) field ≡ Ok cross
      → ReadTo i width cells (cond cross (set row place true) row) (place + 1)
  ReadTo-more cross below is = record {
    front = r.front ++ cross ∷ [];
    placed = length-append r.front (cross ∷ []) ∙ ap (λ (n : ℕ). n + 1) r.placed;
    filled = filled-more below cross;
    says = says-more cross is;
  }

  pub row_form-Err : (e : CsvFault) → cell_form i (place + 2) field ≡ Err e → row_form i 2 [] cells ≡ Err e
  row_form-Err e is = says-next ∙ rw is refl

-- ---- fields that are left

-- what is left begins with the field at this place, and goes on with those behind it
pub left-field : (fields : Record) (place : ℕ) (field : Text) (more : Record) → drop place fields ≡ field ∷ more
    → (Some field ≡ slice_get fields place) × (drop (place + 1) fields ≡ more)
left-field [] zero field more left = cc
left-field [] (suc place) field more left = cc
left-field (f ∷ fields) zero field more left = (cc, cc)
left-field (f ∷ fields) (suc place) field more left =
    let one : suc place + 1 ≡ suc (place + 1) = omega arith in
    rw one (left-field fields place field more left)

-- the fields behind the first
pub slice_get-behind : (fields : Record) (place : ℕ) → slice_get (drop 1 fields) place ≡ slice_get fields (place + 1)
slice_get-behind [] zero = refl
slice_get-behind [] (suc place) = refl
slice_get-behind (f ∷ fields) place =
    let one : place + 1 ≡ suc place = omega arith in
    rw one refl

-- ---- one object more

-- what is left begins with an object, which is put last
pub objects_form-more : (width n m : ℕ) (names new_names : List Text) (rows new_rows : List Set) (fields : Record)
    (left records : List Record) (object : Object)
    → left ≡ fields ∷ records → object_form width (n + 2) fields ≡ Ok object → m ≡ n + 1 → new_names ≡ names ++ object.name ∷ []
    → new_rows ≡ rows ++ object.row ∷ []
    → objects_form width (m + 2) (new_names, new_rows) records ≡ objects_form width (n + 2) (names, rows) left
objects_form-more width n m names new_names rows new_rows fields left records object l is e x y =
    let at : m + 2 ≡ n + 2 + 1 = omega (arith, e) in
    let more : Object → Result (List Text × List Set) CsvFault =
    λ o. objects_form width (n + 2 + 1) (names ++ o.name ∷ [], rows ++ o.row ∷ []) records in
    ap (λ (zs : List Text). objects_form width (m + 2) (zs, new_rows) records) x
    ∙ ap (λ (zs : List Set). objects_form width (m + 2) (names ++ object.name ∷ [], zs) records) y
    ∙ ap (λ (k : ℕ). objects_form width k (names ++ object.name ∷ [], rows ++ object.row ∷ []) records) at
    ∙ sym (ap (objects_form width (n + 2) (names, rows)) l ∙ ap (λ (told : Result Object CsvFault). then told more) is)
