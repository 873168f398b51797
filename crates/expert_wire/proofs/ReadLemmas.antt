-- A pattern is read back as its set. So the text of a row with a valid name and the right width is read back as this row.
use Rattle.std.proofs.Common.{◌≡◌, ◌<◌, ℕ, zero, suc, true, false, ◌&&◌, cond, [], ◌∷◌, ◌++◌, map, length, get_or, Some, None, Ok}
use Rattle.std.proofs.Common.{Err, refl, ap, ap₂, ◌∙◌, arith, eqb, ltb}
use Rattle.std.specs.Prelude.{codes, IsUtf8, IsAscii, is_none, nat_lt, ◌==◌, bytes_eq}
use Rattle.std.specs.List.{list_any, list_all}
use Rattle.std.proofs.lemmas.Bool.{and_parts, and_from, lt-ltb, ltb-true}
use Rattle.std.proofs.lemmas.Str.{IsUtf8-from_ascii}
use Rattle.fca_model.specs.Names.{is_line_break, IsName}
use Rattle.fca_model.specs.Sets.{Set}
use Rattle.fca_model.specs.Tables.{Text}
use Rattle.text_pieces.specs.Marks.{is_cross, is_mark, marks_of}
use Rattle.text_pieces.specs.Words.{is_space, first_word, later_words}
use Rattle.text_pieces.proofs.MarkLemmas.{marks_of-marks, set_of_marks-marks_of, marks_of-no_space, IsLine-marks_of}
use Rattle.text_pieces.proofs.WordLemmas.{before_first-at, after_first-at}
use Rattle.expert_wire.specs.Texts.{pattern}
use Rattle.expert_wire.specs.declared.requests.RequestFault.TheVariants.{Line, Width}
use Rattle.expert_wire.specs.Patterns.{is_name, named_row, row_of_width, set_of_pattern}

-- ---- sets

-- marks that are not a dash are the pattern of their set
marked : (m : ℕ) (A : Set) → eqb m 45 ≡ false → list_all is_mark (m ∷ marks_of A) ≡ true → (B : Set) → map is_cross (m ∷ marks_of A) ≡ B
    → set_of_pattern (m ∷ marks_of A) ≡ Some B
marked m A other marks B back =
    let some : nat_lt 0 (length (m ∷ marks_of A)) ≡ true = lt-ltb 0 (length (m ∷ marks_of A)) (omega arith) in
    ap (λ b. cond (b && bytes_eq (marks_of A) []) (Some [])
    (cond (nat_lt 0 (length (m ∷ marks_of A)) && list_all is_mark (m ∷ marks_of A)) (Some (map is_cross (m ∷ marks_of A))) None)) other
    ∙ ap (λ b. cond b (Some (map is_cross (m ∷ marks_of A))) None)
    (and_from (nat_lt 0 (length (m ∷ marks_of A))) (list_all is_mark (m ∷ marks_of A)) some marks)
    ∙ ap Some back

pub set_of_pattern-pattern : (A : Set) → set_of_pattern (pattern A) ≡ Some A
set_of_pattern-pattern [] = refl
set_of_pattern-pattern (true ∷ A) = marked 88 A refl (marks_of-marks A) (true ∷ A) (ap (λ B. true ∷ B) (set_of_marks-marks_of A))
set_of_pattern-pattern (false ∷ A) = marked 46 A refl (marks_of-marks A) (false ∷ A) (ap (λ B. false ∷ B) (set_of_marks-marks_of A))

-- ---- bytes that no pattern has

pub pattern_no_space : (A : Set) → list_any is_space (pattern A) ≡ false
pattern_no_space [] = refl
pattern_no_space (a ∷ A) = marks_of-no_space (a ∷ A)

pub pattern_no_break : (A : Set) → list_any is_line_break (pattern A) ≡ false
pattern_no_break [] = refl
pattern_no_break (a ∷ A) = (IsLine-marks_of (a ∷ A)).unbroken

-- ---- ASCII

ascii_marks : (A : Set) (i : ℕ) → get_or (marks_of A) i 0 < 128
ascii_marks [] i = omega arith
ascii_marks (true ∷ A) zero = omega arith
ascii_marks (false ∷ A) zero = omega arith
ascii_marks (a ∷ A) (suc i) = ascii_marks A i

pub ascii_pattern : (A : Set) → IsAscii (pattern A)
ascii_pattern [] = ascii_dash
  where
    ascii_dash : (i : ℕ) → get_or (codes "-") i 0 < 128
    ascii_dash zero = omega arith
    ascii_dash (suc i) = omega arith
ascii_pattern (a ∷ A) = ascii_marks (a ∷ A)

-- ---- rows

ascii_words : (xs : Text) → list_all (λ x. ltb x 128) xs ≡ true → (i : ℕ) → get_or xs i 0 < 128
ascii_words [] h i = omega arith
ascii_words (x ∷ xs) h zero = ltb-true x 128 (and_parts (ltb x 128) (list_all (λ y. ltb y 128) xs) h).0
ascii_words (x ∷ xs) h (suc i) = ascii_words xs (and_parts (ltb x 128) (list_all (λ y. ltb y 128) xs) h).1 i

pub utf8_words : (xs : Text) → list_all (λ x. ltb x 128) xs ≡ true → IsUtf8 xs
utf8_words xs h = IsUtf8-from_ascii xs (ascii_words xs h)

pub named_row-written : (n : ℕ) (r : Set) (name : Text) → (length r == n) ≡ true → IsName name
    → named_row n (pattern r ++ (32 ∷ name)) ≡ Ok (name, r)
named_row-written n r name wide named =
    let text = pattern r ++ (32 ∷ name) in
    let first : first_word text ≡ pattern r = before_first-at is_space (pattern r) 32 name (pattern_no_space r) refl in
    let later : later_words text ≡ name = after_first-at is_space (pattern r) 32 name (pattern_no_space r) refl in
    ap₂ (λ w t. cond (is_name t) (row_of_width n t (set_of_pattern w)) (Err Line)) first later
    ∙ ap (λ fault. cond (is_none fault) (row_of_width n name (set_of_pattern (pattern r))) (Err Line)) named.faultless
    ∙ ap (row_of_width n name) (set_of_pattern-pattern r)
    ∙ ap (λ b. cond b (Ok (name, r)) (Err Width)) wide
