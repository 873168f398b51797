-- What the form makes of digits, by the number of 64 bits that they write.
use Rattle.std.proofs.Common.{◌≡◌, ◌≤◌, ◌^◌, ℕ, Bool, true, false, cond, Some, None, refl, inl, inr, arith}
use Rattle.std.proofs.lemmas.Bool.{cases_Bool, le-ltb, lt-leb}
use Rattle.fca_model.specs.Tables.{Text}
use Rattle.text_pieces.specs.Numerals.{value_of, in_64_bits}
use Rattle.text_pieces.proofs.NumeralLemmas.{in_64_bits-none, in_64_bits-some}
use Rattle.value_tables.specs.Numbers.{are_digits, in_range, signed_number}

in_range-large : (minus : Bool) (n : ℕ) → 2 ^ 64 ≤ n → in_range minus n ≡ None
in_range-large true n large = rw (lt-leb n 9223372036854775808 (omega arith)) refl
in_range-large false n large = rw (le-ltb n 9223372036854775808 (omega arith)) refl

pub signed-none : (minus : Bool) (digits : Text) → cond (are_digits digits) (in_64_bits (value_of digits)) None ≡ None
    → signed_number minus digits ≡ None
signed-none minus digits e = elim (cases_Bool (are_digits digits)) [
  | inl is ↦ let large : in_64_bits (value_of digits) ≡ None = rw is at e in
      rw is (in_range-large minus (value_of digits) (in_64_bits-none (value_of digits) large))
  | inr isnt ↦ rw isnt refl
]

pub signed-some : (minus : Bool) (digits : Text) (value : ℕ) → cond (are_digits digits) (in_64_bits (value_of digits)) None ≡ Some value
    → signed_number minus digits ≡ in_range minus value
signed-some minus digits value e = elim (cases_Bool (are_digits digits)) [
  | inl is ↦
      let some : in_64_bits (value_of digits) ≡ Some value = rw is at e in
      rw (is, in_64_bits-some (value_of digits) value some) refl
  | inr isnt ↦ let none : None ≡ Some value = rw isnt at e in cc none
]
