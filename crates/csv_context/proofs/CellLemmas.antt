-- Cells of at most one byte: what the first two bytes say of the first cell, and a cell that is put into a row.
use Rattle.std.proofs.Common.{◌≡◌, ◌∙◌, ◌<◌, ◌≤◌, ◌+◌, ◌-◌, ◌%◌, ◌^◌, ◌∷◌, [], ◌≢◌, ℕ, Bool, true, false, not, ◌&&◌, ◌||◌, ◌==◌, cond, eqb}
use Rattle.std.proofs.Common.{nat_le, Some, take, drop, length, get_or, set, inl, inr, refl, sym, ap, subst, eqb-true, le-leb, ext_get_or}
use Rattle.std.proofs.Common.{get_or-set_same, get_or-set_other, pow_mono, ◌*◌, arith}
use Rattle.std.specs.Int.{bit_at}
use Rattle.std.specs.Int.{from_bool}
use Rattle.std.proofs.lemmas.Bool.{cases_Bool, cases_eq, cases_lt, lt-leb}
use Rattle.std.proofs.lemmas.List.{length-set, length-drop, take_all}
use Rattle.std.proofs.lemmas.Nat.Bits.{bit_at-zero, bit_at-pow_same, bit_at-pow_other}
use Rattle.std.proofs.Math.Bool.{or-false, or_comm, and-false}
use Rattle.fca_model.specs.Sets.{Set}
use Rattle.fca_model.specs.Tables.{Text}
use Rattle.csv_context.proofs.Texts.{both-true}
use Rattle.text_pieces.specs.Blanks.{trim}
use Rattle.csv_context.specs.Lines.{is_comma}
use Rattle.csv_context.specs.Form.{cross_of}
use Rattle.csv_context.specs.Cells.{TakesCell, is_short_cross, begins_short}
use Rattle.csv_context.proofs.LineLemmas.{next_field-none, next_field-one}

-- ---- the first cell

-- a fact of each byte that is short
of_short : (P : ℕ → Type 0) → P 88 → P 120 → P 49 → P 46 → P 48 → P 44 → (b : ℕ) → begins_short b ≡ true → P b
of_short P large small one dot none comma b short = elim (cases_Bool (b == 88)) [
  | inl is ↦ subst P (sym (eqb-true b 88 is)) large
  | inr no_large ↦ elim (cases_Bool (b == 120)) [
    | inl is ↦ subst P (sym (eqb-true b 120 is)) small
    | inr no_small ↦ elim (cases_Bool (b == 49)) [
      | inl is ↦ subst P (sym (eqb-true b 49 is)) one
      | inr no_one ↦ elim (cases_Bool (b == 46)) [
        | inl is ↦ subst P (sym (eqb-true b 46 is)) dot
        | inr no_dot ↦ elim (cases_Bool (b == 48)) [
          | inl is ↦ subst P (sym (eqb-true b 48 is)) none
          | inr no_none ↦
              let is : is_comma b ≡ true = rw (no_large, no_small, no_one, no_dot, no_none) at short in
              subst P (sym (eqb-true b 44 is)) comma
        ]
      ]
    ]
  ]
]

cross_of-short : (b : ℕ) → begins_short b ≡ true → is_comma b ≡ false → cross_of (trim (b ∷ [])) ≡ Some (is_short_cross b)
cross_of-short = of_short (λ b. is_comma b ≡ false → cross_of (trim (b ∷ [])) ≡ Some (is_short_cross b)) (λ _. refl) (λ _. refl) (λ _. refl)
    (λ _. refl) (λ _. refl) (λ other. cc other)

-- an empty cell
pub TakesCell-none : (cells : Text) → 2 ≤ length cells → is_comma (get_or cells 0 0) ≡ true
    → TakesCell cells (is_short_cross (get_or cells 0 0)) (drop 1 cells)
TakesCell-none cells long comma =
    let is : get_or cells 0 0 ≡ 44 = eqb-true (get_or cells 0 0) 44 comma in
    record { field = []; fields = next_field-none cells long comma; says = sym (ap (λ (b : ℕ). Some (is_short_cross b)) is) }

-- a cell of one byte
pub TakesCell-one : (cells : Text) → 2 ≤ length cells → is_comma (get_or cells 0 0) ≡ false → is_comma (get_or cells 1 0) ≡ true
    → begins_short (get_or cells 0 0) ≡ true
    → TakesCell cells (is_short_cross (get_or cells 0 0)) (drop 2 cells)
TakesCell-one [] long other comma short = absurd (omega arith)
TakesCell-one (b ∷ []) long other comma short = absurd (omega arith)
TakesCell-one (b ∷ c ∷ cells) long other comma short =
    record { field = b ∷ []; fields = next_field-one (b ∷ c ∷ cells) long other comma; says = cross_of-short b short other }

-- the bytes behind a place, as a slice has them
behind-drop : (cells : Text) (size : ℕ) → take (length cells - size) (drop size cells) ≡ drop size cells
behind-drop cells size = take_all (length cells - size) (drop size cells) (omega (arith, length-drop size cells))

-- both, by the number of its bytes
pub TakesCell-first : (cells : Text) (size : ℕ) → 2 ≤ length cells → size ≡ from_bool (not (is_comma (get_or cells 0 0)))
    → begins_short (get_or cells 0 0) ≡ true → is_comma (get_or cells size 0) ≡ true
    → TakesCell cells (is_short_cross (get_or cells 0 0)) (take (length cells - (size + 1)) (drop (size + 1) cells))
TakesCell-first cells size long is short comma = elim (cases_Bool (is_comma (get_or cells 0 0))) [
  | inl first ↦
      let none : size ≡ 0 = rw first at is in
      rw (none, behind-drop cells 1) (TakesCell-none cells long first)
  | inr other ↦
      let one : size ≡ 1 = rw other at is in
      let second : is_comma (get_or cells 1 0) ≡ true = rw one at comma in
      rw (one, behind-drop cells 2) (TakesCell-one cells long other second short)
]

-- ---- a cell that is put

-- bits that are put into a set from a place on
abbrev Puts : Set → ℕ → ℕ → Set → Type 0
Puts old from bits new = (i : ℕ) → i < length old
    → get_or new i false ≡ (get_or old i false || (nat_le from i && eqb (bit_at bits (i - from)) 1))

-- no bit
put-none : (old new : Set) (from : ℕ) → length new ≡ length old → Puts old from 0 new → new ≡ old
put-none old new from wide put = ext_get_or false new old wide (λ i lt.
    put i (omega (arith, wide)) ∙ ap (λ x. get_or old i false || (nat_le from i && eqb x 1)) (bit_at-zero (i - from))
    ∙ ap (λ x. get_or old i false || x) (and-false (nat_le from i)) ∙ or-false (get_or old i false))

-- the bit of one place
put-one : (old new : Set) (place k from : ℕ) → place < length old → from + k ≡ place → length new ≡ length old → Puts old from (2 ^ k) new
    → new ≡ set old place true
put-one old new place k from below split wide put =
    ext_get_or false new (set old place true) (wide ∙ sym (length-set old place true)) (λ i lt. elim (cases_eq i place) [
      | inl here ↦
          let down : i - from ≡ k = omega arith in
          let le : from ≤ i = omega arith in
          put i (omega (arith, wide)) ∙ rw (down, bit_at-pow_same k, le-leb from i le) (or_comm (get_or old i false) true)
          ∙ sym (ap (λ j. get_or (set old place true) j false) here ∙ get_or-set_same old place true false below)
      | inr other ↦
          let none : (nat_le from i && eqb (bit_at (2 ^ k) (i - from)) 1) ≡ false = elim (cases_lt i from) [
            | inl before ↦ ap (λ x. x && eqb (bit_at (2 ^ k) (i - from)) 1) (lt-leb from i before)
            | inr le ↦
                let apart : i - from ≢ k = λ e. other (omega arith) in
                ap (λ x. nat_le from i && eqb x 1) (bit_at-pow_other k (i - from) apart) ∙ and-false (nat_le from i)
          ] in
          put i (omega (arith, wide)) ∙ ap (λ x. get_or old i false || x) none ∙ or-false (get_or old i false)
          ∙ sym (get_or-set_other old place i true false other)
    ])

pub put-cell : (old new : Set) (place from bits : ℕ) (cross : Bool) → place < length old → from ≡ place - place % 64
    → bits ≡ from_bool cross * 2 ^ (place % 64) % 2 ^ 64 → length new ≡ length old → Puts old from bits new
    → new ≡ cond cross (set old place true) old
put-cell old new place from bits false below down is wide put =
    let none : bits ≡ 0 = omega arith in
    put-none old new from wide (subst (λ x. Puts old from x new) none put)
put-cell old new place from bits true below down is wide put =
    let few : place % 64 ≤ 63 = omega arith in
    let power : 2 ^ (place % 64) ≤ 2 ^ 63 = pow_mono few in
    let one : bits ≡ 2 ^ (place % 64) = omega (arith, is, power) in
    put-one old new place (place % 64) from below (omega arith) wide (subst (λ x. Puts old from x new) one put)
