-- Records that are written one by one. What is still to be written of the table shrinks from the front, by one record each time. A row is
-- written in blocks of cells.
use Rattle.std.proofs.Common.{◌≡◌, ◌∙◌, ◌<◌, ◌≤◌, ◌+◌, ◌==◌, ◌||◌, ◌++◌, ◌∷◌, [], ℕ, Bool, true, false, List, None, Some, codes, cond, drop}
use Rattle.std.proofs.Common.{length, length-set, map, set, take, slice_get, refl, sym, ap, append_assoc, arith}
use Rattle.std.proofs.lemmas.Bool.{ne_eqb}
use Rattle.std.proofs.lemmas.List.{take-set, take_more_set}
use Rattle.fca_model.specs.Names.{IsName, name_fault}
use Rattle.fca_model.specs.Sets.{Set}
use Rattle.fca_model.specs.Tables.{Text}
use Rattle.text_pieces.specs.Lists.{EachName}
use Rattle.text_pieces.proofs.ItemLemmas.{drop-item, written-all}
use Rattle.csv.specs.Writing.{default_writer, escaped, field_text, fields_text, is_blank, needs_byte, needs_quotes, row_text}
use Rattle.csv_context.specs.Records.{Record}
use Rattle.csv_context.specs.Written.{cell_text, cells_text, object_record, object_records, records_text}

pub EachName-more : (names : List Text) (i : ℕ) (name : Text) → Some name ≡ slice_get names i → IsName name
    → (EachName (drop i names) → EachName names)
    → EachName (drop (i + 1) names) → EachName names
EachName-more names i name at is so_far rest = so_far (rw (drop-item names i name (sym at)) (is, rest))

-- one object more
pub objects-more : (names : List Text) (rows : List Set) (i : ℕ) (name : Text) (row : Set) (text more all : List ℕ)
    → Some name ≡ slice_get names i → slice_get rows i ≡ Some row → more ≡ text ++ row_text default_writer (object_record name row)
    → text ++ records_text (object_records (drop i names) (drop i rows)) ≡ all
    → more ++ records_text (object_records (drop (i + 1) names) (drop (i + 1) rows)) ≡ all
objects-more names rows i name row text more all named wide is so_far =
    let left = rw (drop-item names i name (sym named), drop-item rows i row wide) at so_far in
    rw is (append_assoc text (row_text default_writer (object_record name row))
    (records_text (object_records (drop (i + 1) names) (drop (i + 1) rows))) ∙ left)

-- ---- cells

fields_text-append : (xs ys : Record) → fields_text default_writer (xs ++ ys) ≡ fields_text default_writer xs
    ++ fields_text default_writer ys
unfolding fields_text
fields_text-append [] ys = refl
fields_text-append (x ∷ xs) ys =
    ap (λ (rest : List ℕ). 44 ∷ (field_text default_writer x ++ rest)) (fields_text-append xs ys)
    ∙ ap (λ (rest : List ℕ). 44 ∷ rest) (sym (append_assoc (field_text default_writer x) (fields_text default_writer xs)
    (fields_text default_writer ys)))

map-append : (xs ys : Set) → map cell_text (xs ++ ys) ≡ map cell_text xs ++ map cell_text ys
map-append [] ys = refl
map-append (x ∷ xs) ys = ap (λ (rest : Record). cell_text x ∷ rest) (map-append xs ys)

pub cells_text-append : (xs ys : Set) → cells_text (xs ++ ys) ≡ cells_text xs ++ cells_text ys
cells_text-append xs ys = ap (fields_text default_writer) (map-append xs ys) ∙ fields_text-append (map cell_text xs) (map cell_text ys)

-- the text of one cell
pub cells_text-one : (cross : Bool) → cells_text (cross ∷ []) ≡ 44 ∷ cell_text cross
unfolding fields_text
cells_text-one true = refl
cells_text-one false = refl

-- one cell more, in a list that has room: a comma and an X are put, and the X counts if the cell is a cross
pub cells-more : (row : Set) (cells : List ℕ) (size : ℕ) (cross : Bool) → take size cells ≡ cells_text row → size + 1 < length cells
    → take (size + cond cross 2 1) (set (set cells size 44) (size + 1) 88) ≡ cells_text (row ++ cross ∷ [])
cells-more row cells size cross so_far room =
    let one : take (size + 1) (set cells size 44) ≡ cells_text row ++ 44 ∷ [] = take_more_set cells size 44 (omega arith)
    ∙ ap (λ (xs : List ℕ). xs ++ 44 ∷ []) so_far in
    let longer : length (set cells size 44) ≡ length cells = length-set cells size 44 in
    let comma : take (size + 1) (set (set cells size 44) (size + 1) 88) ≡ cells_text row ++ 44 ∷ [] =
    take-set (set cells size 44) (size + 1) 88 ∙ one in
    let letter : take (size + 1 + 1) (set (set cells size 44) (size + 1) 88) ≡ (cells_text row ++ 44 ∷ []) ++ 88 ∷ [] =
    take_more_set (set cells size 44) (size + 1) 88 (omega arith) ∙ ap (λ (xs : List ℕ). xs ++ 88 ∷ []) one in
    by cross comma letter ∙ sym (cells_text-append row (cross ∷ []) ∙ ap (λ (xs : List ℕ). cells_text row ++ xs) (cells_text-one cross))
  where
    by : (m : Bool) → take (size + 1) (set (set cells size 44) (size + 1) 88) ≡ cells_text row ++ 44 ∷ []
        → take (size + 1 + 1) (set (set cells size 44) (size + 1) 88) ≡ (cells_text row ++ 44 ∷ []) ++ 88 ∷ []
        → take (size + cond m 2 1) (set (set cells size 44) (size + 1) 88) ≡ cells_text row ++ 44 ∷ cell_text m
    by true comma letter =
        let same : size + 2 ≡ size + 1 + 1 = omega arith in
        rw same (letter ∙ append_assoc (cells_text row) (44 ∷ []) (88 ∷ []))
    by false comma letter =
        comma

pub cells_text-none : cells_text [] ≡ []
unfolding fields_text
cells_text-none = refl

-- ---- quotes

pub escaped-quote : (b : ℕ) → b ≡ 34 → escaped default_writer (b ∷ []) ≡ 34 ∷ 34 ∷ []
unfolding escaped
escaped-quote b is = rw is refl

pub escaped-other : (b : ℕ) → (b == 34) ≡ false → escaped default_writer (b ∷ []) ≡ b ∷ []
unfolding escaped
escaped-other b other = rw other refl

pub escaped-none : escaped default_writer [] ≡ []
unfolding escaped
escaped-none = refl

-- what a field needs of its bytes
pub needs_byte-default : (b : ℕ) → needs_byte default_writer b ≡ ((b == 44) || (b == 34) || (b == 13) || (b == 10))
needs_byte-default b = by (b == 44) (b == 34) (b == 13) (b == 10)
  where
    by : (c q r f : Bool) → (c || q || (r || f) || false || false) ≡ (c || q || r || f)
    by true q r f = refl
    by false true r f = refl
    by false false true f = refl
    by false false false true = refl
    by false false false false = refl

-- ---- the text of a record

-- a record with a field that shows a byte is written as it is, and ended by a line feed
pub row_text-filled : (field : Text) (fields : Record) → 0 < length (field_text default_writer field)
    → row_text default_writer (field ∷ fields) ≡ (field_text default_writer field ++ fields_text default_writer fields) ++ 10 ∷ []
unfolding is_blank
row_text-filled field [] some =
    let shows : (length (field_text default_writer field) == 0) ≡ false = ne_eqb _ 0 (λ e. absurd (omega (arith, e, some))) in
    rw shows refl
row_text-filled field (next ∷ fields) some = refl

-- a name shows a byte
field_text-some : (quotes : Bool) (field bytes : Text) → 0 < length field → 0 < length (cond quotes (34 ∷ bytes) field)
field_text-some true field bytes some = omega arith
field_text-some false field bytes some = some

pub name-shows : (name : Text) → IsName name → 0 < length (field_text default_writer name)
unfolding name_fault
name-shows name is = field_text-some (needs_quotes default_writer name) name (escaped default_writer name ++ 34 ∷ []) (by name is.faultless)
  where
    by : (bytes : Text) → name_fault bytes ≡ None → 0 < length bytes
    by [] fault = cc
    by (b ∷ bytes) fault = omega arith

-- the header, after all names are written
pub header-text : (names : List Text) → row_text default_writer (codes "object" ∷ names)
    ≡ (codes "object" ++ fields_text default_writer names) ++ 10 ∷ []
header-text names = row_text-filled (codes "object") names (omega arith)

-- one name more of the header
pub fields_text-cons : (field : Text) (fields : Record)
    → fields_text default_writer (field ∷ fields) ≡ 44 ∷ (field_text default_writer field ++ fields_text default_writer fields)
unfolding fields_text
fields_text-cons field fields = refl

fields_text-none : fields_text default_writer [] ≡ []
unfolding fields_text
fields_text-none = refl

pub header-more : (names : List Text) (i : ℕ) (name bytes : Text) (text comma more all : List ℕ) → Some name ≡ slice_get names i
    → bytes ≡ name
    → comma ≡ text ++ 44 ∷ [] → more ≡ comma ++ field_text default_writer bytes
    → text ++ fields_text default_writer (drop i names) ≡ all → more ++ fields_text default_writer (drop (i + 1) names) ≡ all
header-more names i name bytes text comma more all at same put is so_far =
    let field = field_text default_writer name in
    let rest = fields_text default_writer (drop (i + 1) names) in
    let first : more ≡ (text ++ 44 ∷ []) ++ field = is ∙ ap (λ (b : Text). comma ++ field_text default_writer b) same
    ∙ ap (λ (t : List ℕ). t ++ field) put in
    ap (λ (t : List ℕ). t ++ rest) first
    ∙ append_assoc (text ++ 44 ∷ []) field rest
    ∙ append_assoc text (44 ∷ []) (field ++ rest)
    ∙ ap (λ (t : List ℕ). text ++ t) (sym (fields_text-cons name (drop (i + 1) names)))
    ∙ ap (λ (ns : Record). text ++ fields_text default_writer ns) (sym (drop-item names i name (sym at)))
    ∙ so_far

pub header-done : (names : List Text) (i : ℕ) (old text last : List ℕ) → length names ≤ i
    → text ++ fields_text default_writer (drop i names) ≡ (old ++ codes "object") ++ fields_text default_writer names
    → last ≡ text ++ 10 ∷ []
    → last ≡ old ++ row_text default_writer (codes "object" ∷ names)
header-done names i old text last done so_far ended =
    let rest = fields_text default_writer names in
    ended
    ∙ ap (λ (t : List ℕ). t ++ 10 ∷ []) (written-all (fields_text default_writer) names i text
    ((old ++ codes "object") ++ rest) done fields_text-none so_far ∙ append_assoc old (codes "object") rest)
    ∙ append_assoc old (codes "object" ++ rest) (10 ∷ [])
    ∙ ap (λ (t : List ℕ). old ++ t) (sym (header-text names))

-- an object, after its name and its cells are written
pub object-done : (name bytes : Text) (row : Set) (old named filled last : List ℕ) → IsName name → bytes ≡ name
    → named ≡ old ++ field_text default_writer bytes
    → filled ≡ named ++ cells_text row → last ≡ filled ++ 10 ∷ [] → last ≡ old ++ row_text default_writer (object_record name row)
object-done name bytes row old named filled last is same put cells ended =
    let field = field_text default_writer name in
    ended
    ∙ ap (λ (t : List ℕ). t ++ 10 ∷ [])
    (cells ∙ ap (λ (t : List ℕ). t ++ cells_text row) (put ∙ ap (λ (b : Text). old ++ field_text default_writer b) same)
    ∙ append_assoc old field (cells_text row))
    ∙ append_assoc old (field ++ cells_text row) (10 ∷ [])
    ∙ ap (λ (t : List ℕ). old ++ t) (sym (row_text-filled name (map cell_text row) (name-shows name is)))
