-- What the form makes of the lines that are written of numbers and rows, and how wide a row is that was read.
use Rattle.std.proofs.Common.{◌≡◌, ◌∙◌, ◌<◌, ◌≤◌, ◌^◌, ◌&&◌, ◌∷◌, [], ℕ, Bool, true, false, nat_le, IfOk, Some, Ok, length, take, drop}
use Rattle.std.proofs.Common.{refl, inl, inr, arith}
use Rattle.std.specs.Fmt.{decimal}
use Rattle.std.specs.List.{list_all}
use Rattle.std.proofs.Math.ListN.{drop_of_length-le}
use Rattle.std.proofs.lemmas.Bool.{and_parts, cases_Bool, le-leb, le-ltb, leb-true}
use Rattle.std.proofs.lemmas.List.{length-map, length-take-le, take_all}
use Rattle.fca_model.specs.Sets.{Set}
use Rattle.text_pieces.specs.Blanks.{is_blank_line}
use Rattle.text_pieces.specs.Lines.{Line}
use Rattle.text_pieces.specs.Marks.{is_cross, is_mark, marks_of}
use Rattle.text_pieces.proofs.MarkLemmas.{marks_of-marks, set_of_marks-marks_of, length-marks_of}
use Rattle.text_pieces.proofs.NumeralLemmas.{numeral-decimal, trim-decimal}
use Rattle.cxt_format.specs.LineForms.{count_form, row_in_marks, row_form}

pub count_form-decimal : (most k n : ℕ) → n ≤ most → n < 2 ^ 64 → count_form most k (decimal n) ≡ Ok n
count_form-decimal most k n within small =
    let numeral = numeral-decimal n small in
    rw (trim-decimal n, numeral.0, numeral.1, le-ltb most n within) refl

pub row_in_marks-marks_of : (row : Set) → row_in_marks (length row) (marks_of row) ≡ Some row
row_in_marks-marks_of row =
    let same = length-marks_of row in
    let all : take (length row) (marks_of row) ≡ marks_of row = take_all (length row) (marks_of row) (omega (arith, same)) in
    let none : drop (length row) (marks_of row) ≡ [] = drop_of_length-le (marks_of row) (omega (arith, same)) in
    rw (le-leb (length row) (length (marks_of row)) (omega (arith, same)), all, none, marks_of-marks row, set_of_marks-marks_of row) refl

pub is_blank_line-marks_of : (mark : Bool) (row : Set) → is_blank_line (marks_of (mark ∷ row)) ≡ false
is_blank_line-marks_of true row = refl
is_blank_line-marks_of false row = refl

-- a row that was read has as many places as there are attributes
pub wide-row_form : (width k : ℕ) (line : Line) → IfOk (row_form width k line) (λ row. length row ≡ width)
wide-row_form width k line = elim (cases_Bool (nat_le width (length line)
    && (list_all is_mark (take width line) && is_blank_line (drop width line)))) [
      | inl is ↦
          let long = and_parts (nat_le width (length line)) (list_all is_mark (take width line) && is_blank_line (drop width line)) is in
          rw is (length-map (take width line) is_cross ∙ length-take-le width line (leb-true width (length line) long.0))
      | inr isnt ↦ rw isnt tt
    ]
