-- Numbers in texts.
--
-- A number is 1 to 19 decimal digits, with or without a - before them, from -2^63 to 2^63 - 1. So -0 and 0 are one number, and so are 7 and
-- 007.
--
-- "-12" is the number -12; "+12", "1.5" and "12 " are none.
use Rattle.std.specs.Prelude.{ℕ, ◌==◌, ◌&&◌, Bool, nat_le, nat_lt, true, false, cond, [], ◌∷◌, Option, Some, None, ℤ, pos, neg_ℤ, length}
use Rattle.fca_model.specs.Tables.{Text}
use Rattle.text_pieces.specs.Numerals.{is_numeral, value_of}

-- 1 to 19 decimal digits
abbrev pub are_digits : Text → Bool
are_digits digits = is_numeral digits && nat_le (length digits) 19

-- the number of this sign and absolute value, if it is from -2^63 to 2^63 - 1
abbrev pub in_range : Bool → ℕ → Option ℤ
in_range minus value =
    cond minus
    (cond (nat_le value 9223372036854775808) (Some (neg_ℤ (pos value))) None)
    (cond (nat_lt value 9223372036854775808) (Some (pos value)) None)

-- the number that digits write, with the sign that stands before them
abbrev pub signed_number : Bool → Text → Option ℤ
signed_number minus digits = cond (are_digits digits) (in_range minus (value_of digits)) None

-- the number that the text is, if it is one; 45 is the minus sign
abbrev pub number_of : Text → Option ℤ
number_of [] = None
number_of (byte ∷ text) = cond (byte == 45) (signed_number true text) (signed_number false (byte ∷ text))
