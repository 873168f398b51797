-- Numbers in decimal digits, of which the first may be zeros.
use Rattle.std.specs.Prelude.{ℕ, ◌+◌, ◌-◌, ◌*◌, ◌^◌, ◌&&◌, nat_lt, Bool, cond, Option, Some, None, length, fold}
use Rattle.std.specs.Char.{is_ascii_digit}
use Rattle.std.specs.List.{list_all}
use Rattle.fca_model.specs.Tables.{Text}

-- one or more decimal digits
abbrev pub is_numeral : Text → Bool
is_numeral word = nat_lt 0 (length word) && list_all is_ascii_digit word

-- the number that the digits write
abbrev pub value_of : Text → ℕ
value_of digits = fold (λ n b. n * 10 + (b - 48)) 0 digits

-- a number that has no more than 64 bits
abbrev pub in_64_bits : ℕ → Option ℕ
in_64_bits value = cond (nat_lt value (2 ^ 64)) (Some value) None
