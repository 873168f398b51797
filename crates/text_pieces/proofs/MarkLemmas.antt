-- How marks are read and written. The crosses of a block of bytes become the bits of a number, and these are put into the set at their
-- places; marks are filled in place by place. What is written of a set marks it.
use Rattle.std.proofs.Common.{◌≡◌, ◌∙◌, ◌<◌, ◌≤◌, ◌+◌, ◌-◌, ◌^◌, ◌∷◌, [], List, ℕ, suc, Bool, true, false, ◌&&◌, ◌||◌, cond, eqb, nat_le}
use Rattle.std.proofs.Common.{map, length, drop, take, get_or, replicate, refl, ap, ap₂, inl, inr, arith, min}
use Rattle.std.specs.Int.{bit_at}
use Rattle.std.specs.List.{list_all, list_any}
use Rattle.std.proofs.lemmas.Bool.{cases_lt, le-leb, lt-leb}
use Rattle.std.proofs.Math.Bool.{or-false, and-false}
use Rattle.std.proofs.lemmas.List.{get_or-replicate, length-replicate, get_or-take, get_or-drop, length-take-le, length-drop}
use Rattle.std.proofs.lemmas.Nat.Bits.{bit_at_above}
use Rattle.std.proofs.lemmas.Simd.{bit_mask_l}
use Rattle.std.specs.Simd.Lanes.{mask_l}
use Rattle.fca_model.specs.Sets.{Set}
use Rattle.fca_model.proofs.ListLemmas.{eqb-cond}
use Rattle.fca_model.specs.Tables.{Text}
use Rattle.text_pieces.specs.Marks.{is_cross, is_mark, mark_of, marks_of}
use Rattle.text_pieces.specs.Words.{is_space}
use Rattle.text_pieces.proofs.LineLemmas.{IsLine, IsLine-nil, IsLine-more}

-- ---- one block

-- whether byte k is a cross
abbrev pub cross_at : Text → ℕ → Bool
cross_at cells k = is_cross (get_or cells k 0)

-- one bit of the mask of some lanes
pub is_set-mask_l : (lanes : List Bool) (j : ℕ) → eqb (bit_at (mask_l lanes) j) 1 ≡ get_or lanes j false
is_set-mask_l lanes j = ap (λ x. eqb x 1) (bit_mask_l lanes j) ∙ eqb-cond (get_or lanes j false)

-- ---- all blocks

-- of the bytes those below i are read, and the other places are empty
pub record CrossedTo (cells : Text) (set : Set) (i : ℕ) : Type 0 where
  pub wide : length set ≡ length cells
  pub read : (j : ℕ) → j < i → get_or set j false ≡ cross_at cells j
  pub rest : (j : ℕ) → i ≤ j → j < length cells → get_or set j false ≡ false

pub CrossedTo-zero : (cells : Text) → CrossedTo cells (replicate (length cells) false) 0
CrossedTo-zero cells = record {
  wide = length-replicate (length cells) false;
  read = λ j lt. absurd (omega arith);
  rest = λ j le lt. get_or-replicate (length cells) j false false lt;
}

-- the crosses of the bytes from i to `end`, of which there are 64 or all that are left
pub CrossedTo-block : (i end bits : ℕ) (cells : Text) (set new : Set) → CrossedTo cells set i → i ≤ end → end ≡ min (length cells) (i + 64)
    → ((k : ℕ) → k < length (take (end - i) (drop i cells)) → eqb (bit_at bits k) 1 ≡ cross_at (take (end - i) (drop i cells)) k)
    → bits < 2 ^ 64 → length new ≡ length set
    → ((j : ℕ) → j < length set → get_or new j false ≡ (get_or set j false || (nat_le i j && eqb (bit_at bits (j - i)) 1)))
    → CrossedTo cells new end
CrossedTo-block i end bits cells set new r up last crosses small wide put = record {
  wide = wide ∙ r.wide;
  read = λ j lt. elim (cases_lt j i) [
    | inl before ↦
        put j (omega (arith, r.wide)) ∙ ap (λ x. get_or set j false || (x && eqb (bit_at bits (j - i)) 1)) (lt-leb i j before)
        ∙ or-false (get_or set j false) ∙ r.read j before
    | inr later ↦
        let here : j - i < end - i = omega arith in
        let back : i + (j - i) ≡ j = omega arith in
        let cell : get_or (take (end - i) (drop i cells)) (j - i) 0 ≡ get_or cells j 0 = get_or-take (end - i) (drop i cells) (j - i) 0 here
        ∙ get_or-drop i cells (j - i) 0 ∙ ap (λ k. get_or cells k 0) back in
        let long : length (take (end - i) (drop i cells)) ≡ end - i =
        length-take-le (end - i) (drop i cells) (omega (arith, length-drop i cells)) in
        put j (omega (arith, r.wide)) ∙ ap₂ (λ x y. x || (y && eqb (bit_at bits (j - i)) 1)) (r.rest j later (omega arith))
        (le-leb i j later)
        ∙ crosses (j - i) (omega (arith, long)) ∙ ap is_cross cell
  ];
  rest = λ j le lt. put j (omega (arith, r.wide))
      ∙ ap₂ (λ x y. x || (nat_le i j && eqb y 1)) (r.rest j (omega arith) lt) (bit_at_above bits 64 (j - i) small (omega arith))
      ∙ and-false (nat_le i j);
}

set_of_marks-places : (cells : Text) (set : Set) → length set ≡ length cells
    → ((j : ℕ) → j < length cells → get_or set j false ≡ cross_at cells j) → set ≡ map is_cross cells
set_of_marks-places [] [] wide read = refl
set_of_marks-places [] (a ∷ set) wide read = absurd (omega arith)
set_of_marks-places (b ∷ cells) [] wide read = absurd (omega arith)
set_of_marks-places (b ∷ cells) (a ∷ set) wide read =
    ap₂ (λ x xs. x ∷ xs) (read 0 (omega arith)) (set_of_marks-places cells set (omega arith) (λ j lt. read (suc j) (omega arith)))

-- all bytes were read
pub CrossedTo-all : (cells : Text) (set : Set) → CrossedTo cells set (length cells) → set ≡ map is_cross cells
CrossedTo-all cells set r = set_of_marks-places cells set r.wide r.read

-- ---- marks that are written

-- marks that were filled in place by place
pub marks_filled : (A : Set) (marks : Text) → length A ≤ length marks
    → ((k : ℕ) → k < length A → get_or marks k 0 ≡ mark_of (get_or A k false)) → take (length A) marks ≡ marks_of A
marks_filled [] marks h f = refl
marks_filled (a ∷ A) [] h f = absurd (omega arith)
marks_filled (a ∷ A) (m ∷ marks) h f = ap₂ (λ x xs. x ∷ xs) (f 0 (omega arith))
    (marks_filled A marks (omega arith) (λ k l. f (suc k) (omega arith)))

pub marks_of-marks : (A : Set) → list_all is_mark (marks_of A) ≡ true
marks_of-marks [] = refl
marks_of-marks (true ∷ A) = marks_of-marks A
marks_of-marks (false ∷ A) = marks_of-marks A

-- the set is read back from its marks
pub set_of_marks-marks_of : (A : Set) → map is_cross (marks_of A) ≡ A
set_of_marks-marks_of [] = refl
set_of_marks-marks_of (true ∷ A) = ap (λ B. true ∷ B) (set_of_marks-marks_of A)
set_of_marks-marks_of (false ∷ A) = ap (λ B. false ∷ B) (set_of_marks-marks_of A)

pub length-marks_of : (A : Set) → length (marks_of A) ≡ length A
length-marks_of [] = refl
length-marks_of (a ∷ A) = ap suc (length-marks_of A)

pub marks_of-no_space : (A : Set) → list_any is_space (marks_of A) ≡ false
marks_of-no_space [] = refl
marks_of-no_space (true ∷ A) = marks_of-no_space A
marks_of-no_space (false ∷ A) = marks_of-no_space A

pub IsLine-marks_of : (A : Set) → IsLine (marks_of A)
IsLine-marks_of [] = IsLine-nil
IsLine-marks_of (true ∷ A) = IsLine-more 88 (marks_of A) refl (omega arith) (IsLine-marks_of A)
IsLine-marks_of (false ∷ A) = IsLine-more 46 (marks_of A) refl (omega arith) (IsLine-marks_of A)
