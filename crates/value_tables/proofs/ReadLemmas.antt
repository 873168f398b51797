-- Objects that are read one by one: what holds while some are left, and one object more.
use Rattle.std.proofs.Common.{◌≡◌, ◌∙◌, ◌≤◌, ◌+◌, ◌*◌, ◌++◌, ◌∷◌, [], ℕ, List, Ok, length, drop, get_or, nat_lt, eq-eqb, refl, sym, ap}
use Rattle.std.proofs.Common.{subst, arith, length-append, length-drop}
use Rattle.std.proofs.lemmas.Bool.{le-ltb}
use Rattle.std.proofs.lemmas.List.{length_push}
use Rattle.std.specs.Prelude.{None, ◌==◌, ◌<◌, true, false, sum, take}
use Rattle.std.specs.List.{list_any}
use Rattle.fca_model.specs.Names.{is_line_break}
use Rattle.csv_context.specs.Lines.{fields_in}
use Rattle.fca_model.specs.Tables.{Text}
use Rattle.fca_model.specs.declared.TheConstants.{MAX_OBJECTS}
use Rattle.csv_context.specs.Records.{Record}
use Rattle.value_tables.specs.Cells.{AreCells, PutsObject, cut, objects_of, texts}
use Rattle.value_tables.specs.Pieces.{ArePieces}
use Rattle.value_tables.specs.declared.pieces.Pieces.{Pieces}
use Rattle.value_tables.specs.Form.{bad_field, object_form, object_of, objects_form}
use Rattle.value_tables.specs.declared.cells.Cells.{Cells}
use Rattle.value_tables.proofs.CellLemmas.{cut_first, cut_length, even_more, objects_more}
use Rattle.value_tables.proofs.FieldLemmas.{bad_field-none_in}

-- the objects read so far, those that are left, and all
pub record ReadSoFar (width : ℕ) (names : List Text) (values : Cells) (left all : List Record) : Type 0 where
  pub few : length names ≤ MAX_OBJECTS
  pub cells : AreCells values
  pub even : length (texts values) ≡ length names * width
  pub says : objects_form width (length names + 2) (objects_of width names (texts values)) left ≡ objects_form width 2 [] all

pub ReadSoFar-more : (width : ℕ) (names : List Text) (old new : Cells) (left rest all : List Record) (fields : Record) (name : Text)
    → left ≡ fields ∷ rest → object_form width (length names + 2) fields ≡ Ok (object_of fields) → name ≡ get_or fields 0 []
    → PutsObject width (length names + 2) fields old new
    → ReadSoFar width names old left all → ReadSoFar width (names ++ name ∷ []) new rest all
ReadSoFar-more width names old new left rest all fields name first form named puts so_far =
    let wide : length (drop 1 fields) ≡ width = omega (arith, length-drop 1 fields, puts.whole) in
    let longer = length_push names name in
    record {
      few = omega (arith, puts.within, longer);
      cells = puts.cells;
      even =
          ap length puts.texts
          ∙ length-append (texts old) (drop 1 fields)
          ∙ even_more (length names) (length (names ++ name ∷ [])) width (length (texts old))
          (length (drop 1 fields)) longer so_far.even wide;
      says =
          ap (λ (vs : List Text). objects_form width (length (names ++ name ∷ []) + 2) (objects_of width (names ++ name ∷ []) vs) rest)
          puts.texts
          ∙ sym (objects_more width names (texts old) fields rest name form named puts.whole so_far.even)
          ∙ ap (λ (rs : List Record). objects_form width (length names + 2) (objects_of width names (texts old)) rs) (sym first)
          ∙ so_far.says;
    }

-- the form of an object without a fault
pub object_form-Ok : (width i : ℕ) (fields : Record) → i ≤ MAX_OBJECTS + 1 → length fields ≡ width + 1 → bad_field fields ≡ None
    → object_form width i fields ≡ Ok (object_of fields)
object_form-Ok width i fields within whole good =
    let few : nat_lt (MAX_OBJECTS + 1) i ≡ false = le-ltb (MAX_OBJECTS + 1) i within in
    let wide : length fields == width + 1 ≡ true = eq-eqb _ _ whole in
    rw (few, wide, good) refl

-- the pieces of a short line are an object if there are enough of them and the first has a byte
pub pieces_object : (line lengths : Text) (pieces : Pieces) (width : ℕ) → length line ≤ 255 → list_any is_line_break line ≡ false
    → ArePieces line pieces → lengths ≡ take pieces.count pieces.lengths
    → length lengths ≡ width + 1 → 0 < get_or lengths 0 0 → (length (fields_in line) ≡ width + 1) × (bad_field (fields_in line) ≡ None)
pieces_object line lengths pieces width few unbroken are is whole named =
    let text : Text = take pieces.end pieces.text in
    let same : cut lengths text ≡ fields_in line = ap (λ (ls : List ℕ). cut ls text) is ∙ are.fields in
    let sized : sum lengths ≡ length text = ap sum is ∙ are.whole in
    let first : length (get_or (cut lengths text) 0 []) ≡ get_or lengths 0 0 = cut_first lengths text (omega arith) sized in
    let some : 0 < length (get_or (fields_in line) 0 []) = let P : List Text → Type 0 = λ fs. 0 < length (get_or fs 0 []) in
    subst P same (omega arith) in
    (ap length (sym same) ∙ cut_length lengths text ∙ whole, bad_field-none_in line few unbroken some)
