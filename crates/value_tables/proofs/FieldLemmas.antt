-- One field more.
use Rattle.std.proofs.Common.{◌≡◌, ◌∙◌, ◌<◌, ◌≤◌, ◌+◌, ◌-◌, ◌||◌, ◌∷◌, le-ltb, [], ℕ, zero, suc, true, false, not, List, Option, Some, None}
use Rattle.std.proofs.Common.{take, drop, length, get_or, length-drop, slice_get, inl, inr, refl, sym, ap, arith, ltb, eqb, ltb-false}
use Rattle.std.proofs.Common.{eqb-true, is_none}
use Rattle.std.proofs.lemmas.Bool.{cases_Bool, ne_eqb, or_cases, or_parts}
use Rattle.std.proofs.lemmas.List.{length-take}
use Rattle.csv.specs.Records.{cut_from}
use Rattle.std.proofs.lemmas.Option.{slice_get_within, slice_get-get_or}
use Rattle.std.specs.List.{list_any}
use Rattle.fca_model.specs.Names.{is_line_break, name_fault}
use Rattle.fca_model.specs.declared.TheConstants.{MAX_NAME_BYTES}
use Rattle.fca_model.specs.declared.names.NameFault.{NameFault}
use Rattle.fca_model.specs.Tables.{Text}
use Rattle.text_pieces.proofs.ItemLemmas.{drop-item}
use Rattle.csv_context.specs.Lines.{fields_in, add_byte, is_comma}
use Rattle.csv_context.specs.Records.{Record}
use Rattle.csv_context.proofs.LineLemmas.{any_drop, any_take}
use Rattle.value_tables.specs.Form.{bad_field, first_bad, is_field, is_name}
use Rattle.value_tables.specs.declared.fields.FieldKind.{FieldKind}
use Rattle.value_tables.specs.declared.fields.FieldKind.TheVariants as kind

pub first_bad_more : (kind : FieldKind) (fields : Record) (place : ℕ) (field : Text) → Some field ≡ slice_get fields place
    → is_field kind field ≡ true
    → first_bad kind (place + 1) (drop place fields) ≡ first_bad kind (place + 1 + 1) (drop (place + 1) fields)
first_bad_more kind fields place field at good = rw (drop-item fields place field (sym at), good) refl

pub first_bad_here : (kind : FieldKind) (fields : Record) (place : ℕ) (field : Text) → Some field ≡ slice_get fields place
    → is_field kind field ≡ false
    → first_bad kind (place + 1) (drop place fields) ≡ Some (place + 1)
first_bad_here kind fields place field at bad = rw (drop-item fields place field (sym at), bad) refl

pub first_bad_none : (kind : FieldKind) (fields : Record) (place : ℕ) (field : Text) → Some field ≡ slice_get fields place
    → first_bad kind (place + 1) (drop place fields) ≡ None
    → is_field kind field ≡ true
first_bad_none kind fields place field at none = elim (cases_Bool (is_field kind field)) [
  | inl is ↦ is
  | inr isnt ↦ let some = sym (first_bad_here kind fields place field at isnt) ∙ none in cc
]

-- no field from a place on is bad
pub first_bad_within : (kind : FieldKind) (fields : Record) (from d : ℕ) (field : Text) → Some field ≡ slice_get fields (from + d)
    → first_bad kind (from + 1) (drop from fields) ≡ None
    → is_field kind field ≡ true
first_bad_within kind fields from zero field at none =
    let same : from + zero ≡ from = omega arith in
    first_bad_none kind fields from field (at ∙ ap (slice_get fields) same) none
first_bad_within kind fields from (suc d) field at none =
    let same : from + suc d ≡ from + 1 + d = omega arith in
    let later = slice_get_within fields (from + suc d) field (sym at) in
    let below : from < length fields = omega arith in
    let first = get_or fields from [] in
    let here = sym (slice_get-get_or fields from [] below) in
    let good = first_bad_none kind fields from first here none in
    first_bad_within kind fields (from + 1) d field (at ∙ ap (slice_get fields) same)
    (sym (first_bad_more kind fields from first here good) ∙ none)

-- ---- names

pub is_name_empty : (field : Text) → eqb (length field) 0 ≡ true → false ≡ is_name field
unfolding name_fault
is_name_empty field empty = rw empty refl

pub is_name_long : (field : Text) → eqb (length field) 0 ≡ false → ltb MAX_NAME_BYTES (length field) ≡ true → false ≡ is_name field
unfolding name_fault
is_name_long field some long = rw (some, long) refl

pub is_name_short : (field : Text) → eqb (length field) 0 ≡ false → ltb MAX_NAME_BYTES (length field) ≡ false
    → not (list_any is_line_break field) ≡ is_name field
unfolding name_fault
is_name_short field some short = elim (cases_Bool (list_any is_line_break field)) [
  | inl line ↦ rw (some, short, line) refl
  | inr none ↦ rw (some, short, none) refl
]

pub name_faultless : (field : Text) → is_name field ≡ true → name_fault field ≡ None
name_faultless field named = none (name_fault field) named
  where
    none : (o : Option NameFault) → is_none o ≡ true → o ≡ None
    none None is = refl
    none (Some fault) is = cc

name_short : (field : Text) → is_name field ≡ true → length field ≤ 255
unfolding name_fault
name_short field named = elim (cases_Bool (eqb (length field) 0)) [
  | inl empty ↦ let none : length field ≡ 0 = eqb-true (length field) 0 empty in omega arith
  | inr some ↦ elim (cases_Bool (ltb MAX_NAME_BYTES (length field))) [
    | inl long ↦ let no = rw (some, long) at named in cc
    | inr short ↦ let few : length field ≤ MAX_NAME_BYTES = ltb-false MAX_NAME_BYTES (length field) short in omega arith
  ]
]

pub value_short : (field : Text) → is_field kind.Value field ≡ true → length field ≤ 255
value_short field is = elim (or_cases _ _ is) [
  | inl empty ↦ let none : length field ≡ 0 = eqb-true (length field) 0 empty in omega arith
  | inr named ↦ name_short field named
]

-- a record without a bad field begins with a name, and goes on with values
pub bad_field_none : (fields : Record) → bad_field fields ≡ None
    → (is_name (get_or fields 0 []) ≡ true) × (first_bad kind.Value 2 (drop 1 fields) ≡ None)
bad_field_none fields none = elim (cases_Bool (is_name (get_or fields 0 []))) [
  | inl is ↦ (is, rw is at none)
  | inr isnt ↦ let some = rw isnt at none in cc
]

-- ---- a record as one text

-- bytes without a line break are a value, and a name if they are not empty
unbroken_name : (piece : Text) → length piece ≤ 255 → list_any is_line_break piece ≡ false → eqb (length piece) 0 ≡ false
    → is_name piece ≡ true
unbroken_name piece few unbroken some = sym (is_name_short piece some (le-ltb MAX_NAME_BYTES (length piece) few)) ∙ ap not unbroken

unbroken_value : (piece : Text) → length piece ≤ 255 → list_any is_line_break piece ≡ false → is_field kind.Value piece ≡ true
unbroken_value piece few unbroken = elim (cases_Bool (eqb (length piece) 0)) [
  | inl empty ↦ ap (λ b. b || is_name piece) empty
  | inr some ↦ rw some (unbroken_name piece few unbroken some)
]

module _ (bytes : Text) (few : length bytes ≤ 255) (unbroken : list_any is_line_break bytes ≡ false) where
  piece_few : (m n : ℕ) → length (take n (drop m bytes)) ≤ 255
  piece_few m n = omega (arith, length-take n (drop m bytes), length-drop m bytes, few)

  piece_unbroken : (m n : ℕ) → list_any is_line_break (take n (drop m bytes)) ≡ false
  piece_unbroken m n = any_take is_line_break n (drop m bytes) (any_drop is_line_break m bytes unbroken)

  pieces_good : (start j : ℕ) (ends : List ℕ) → first_bad kind.Value j (cut_from start ends bytes) ≡ None
  unfolding cut_from
  pieces_good start j [] = refl
  pieces_good start j (end ∷ ends) = rw (unbroken_value (take (end - start) (drop start bytes)) (piece_few start (end - start))
      (piece_unbroken start (end - start))) (pieces_good end (j + 1) ends)

  pub bad_field-none_from : (ends : List ℕ) → eqb (length (get_or (cut_from 0 ends bytes) 0 [])) 0 ≡ false
      → bad_field (cut_from 0 ends bytes) ≡ None
  unfolding cut_from
  bad_field-none_from [] some = absurd (cc)
  bad_field-none_from (end ∷ ends) some = rw (unbroken_name (take (end - 0) (drop 0 bytes)) (piece_few 0 (end - 0))
      (piece_unbroken 0 (end - 0)) some) (pieces_good end 2 ends)

-- ---- a line

-- each piece has at most n bytes, and no line break
abbrev AreParts : ℕ → Record → Type 0
AreParts n [] = Unit {0}
AreParts n (piece ∷ pieces) = (length piece ≤ n) × (list_any is_line_break piece ≡ false) × AreParts n pieces

AreParts-more : (n m : ℕ) (pieces : Record) → n ≤ m → AreParts n pieces → AreParts m pieces
AreParts-more n m [] le parts = tt
AreParts-more n m (piece ∷ pieces) le parts = (omega (arith, parts.0), parts.1, AreParts-more n m pieces le parts.2)

AreParts-joined : (n b : ℕ) (pieces : Record) → is_line_break b ≡ false → AreParts n pieces → AreParts (suc n) (add_byte b pieces)
AreParts-joined n b [] plain parts = (omega arith, rw plain refl, tt)
AreParts-joined n b (piece ∷ pieces) plain parts =
    (omega (arith, parts.0), rw plain parts.1, AreParts-more n (suc n) pieces (omega arith) parts.2)

AreParts-fields : (line : Text) → list_any is_line_break line ≡ false → AreParts (length line) (fields_in line)
AreParts-fields [] unbroken = (omega arith, refl, tt)
AreParts-fields (b ∷ line) unbroken =
    let plain = or_parts (is_line_break b) (list_any is_line_break line) unbroken in
    let parts = AreParts-fields line plain.1 in
    elim (cases_Bool (is_comma b)) [
      | inl is ↦ rw is (omega arith, refl, AreParts-more (length line) (suc (length line)) (fields_in line) (omega arith) parts)
      | inr isnt ↦ rw isnt (AreParts-joined (length line) b (fields_in line) plain.0 parts)
    ]

parts_good : (pieces : Record) (j : ℕ) → AreParts 255 pieces → first_bad kind.Value j pieces ≡ None
parts_good [] j parts = refl
parts_good (piece ∷ pieces) j parts = rw (unbroken_value piece parts.0 parts.1) (parts_good pieces (j + 1) parts.2)

-- the fields of a short line are a name and values if the first has a byte
pub bad_field-none_in : (line : Text) → length line ≤ 255 → list_any is_line_break line ≡ false → 0 < length (get_or (fields_in line) 0 [])
    → bad_field (fields_in line) ≡ None
bad_field-none_in line few unbroken some = by (fields_in line)
    (AreParts-more (length line) 255 (fields_in line) few (AreParts-fields line unbroken)) some
  where
    by : (pieces : Record) → AreParts 255 pieces → 0 < length (get_or pieces 0 []) → bad_field pieces ≡ None
    by [] parts some = absurd (omega arith)
    by (piece ∷ pieces) parts some =
        let filled : eqb (length piece) 0 ≡ false = ne_eqb (length piece) 0 (λ e. absurd (omega (arith, e, some))) in
        rw (unbroken_name piece parts.0 parts.1 filled) (parts_good pieces 2 parts.2)
