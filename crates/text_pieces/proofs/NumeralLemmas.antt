-- Decimal digits: what they are not, that those of a number write it, and that a number only grows with the digits behind it.
use Rattle.std.proofs.Common.{◌≡◌, ◌≢◌, ◌≤◌, ◌<◌, ◌+◌, ◌*◌, ◌-◌, ◌/◌, ◌%◌, ◌^◌, ◌∙◌, ℕ, Bool, true, false, cond, zero, suc, List, [], ◌∷◌}
use Rattle.std.proofs.Common.{◌++◌, length, take, get_or, fold, Some, None, refl, ne_eqb, arith}
use Rattle.std.specs.Prelude.{decimal, IsUtf8, nat_lt, nat_le, ◌==◌}
use Rattle.std.specs.Char.{is_ascii_digit}
use Rattle.std.specs.Fmt.{digits, digits_onto, digit_glyph}
use Rattle.std.specs.List.{list_any, list_all}
use Rattle.std.proofs.lemmas.Nat.{div-add-mod'}
use Rattle.std.proofs.lemmas.Bool.{le-ltb, lt-ltb, ltb-false, le-leb, leb-true, and_parts, and_from, or_from}
use Rattle.std.proofs.lemmas.List.Sums.{fold-append}
use Rattle.std.proofs.lemmas.Fmt.{decimal_by_steps, decimal_nonempty}
use Rattle.std.proofs.lemmas.Str.{IsUtf8-from_ascii}
use Rattle.fca_model.specs.Names.{is_line_break}
use Rattle.fca_model.specs.Tables.{Text}
use Rattle.text_pieces.specs.Blanks.{is_blank, trim, without_blanks_after}
use Rattle.text_pieces.specs.Numerals.{is_numeral, value_of, in_64_bits}
use Rattle.text_pieces.specs.Words.{is_space}
use Rattle.text_pieces.proofs.LineLemmas.{IsLine}
use Rattle.text_pieces.proofs.TextLemmas.{list_any-excluded}

-- ---- what digits are not

digit_in_range : (x : ℕ) → is_ascii_digit x ≡ true → (48 ≤ x) × (x ≤ 57)
digit_in_range x h = let parts = and_parts (nat_le 48 x) (nat_le x 57) h in (leb-true 48 x parts.0, leb-true x 57 parts.1)

pub digit_no_space : (x : ℕ) → is_ascii_digit x ≡ true → is_space x ≡ false
digit_no_space x h = let range = digit_in_range x h in let other : x ≢ 32 = omega arith in ne_eqb x 32 other

pub digit_no_break : (x : ℕ) → is_ascii_digit x ≡ true → is_line_break x ≡ false
digit_no_break x h =
    let range = digit_in_range x h in
    let feed : x ≢ 10 = omega arith in
    let return_ : x ≢ 13 = omega arith in
    or_from (x == 10) (x == 13) (ne_eqb x 10 feed) (ne_eqb x 13 return_)

digit_no_blank : (x : ℕ) → is_ascii_digit x ≡ true → is_blank x ≡ false
digit_no_blank x h =
    let range = digit_in_range x h in
    let space : x ≢ 32 = omega arith in
    let tab : x ≢ 9 = omega arith in
    or_from (x == 32) (x == 9) (ne_eqb x 32 space) (ne_eqb x 9 tab)

after-digits : (ds : Text) → list_all is_ascii_digit ds ≡ true → without_blanks_after ds ≡ ds
after-digits [] h = refl
after-digits (d ∷ ds) h =
    let parts = and_parts (is_ascii_digit d) (list_all is_ascii_digit ds) h in
    rw (digit_no_blank d parts.0, after-digits ds parts.1) refl

trim-digits : (ds : Text) → list_all is_ascii_digit ds ≡ true → trim ds ≡ ds
trim-digits [] h = refl
trim-digits (d ∷ ds) h =
    let parts = and_parts (is_ascii_digit d) (list_all is_ascii_digit ds) h in
    rw (digit_no_blank d parts.0) (after-digits (d ∷ ds) h)

-- ---- the digits of a number

glyph_is_digit : (d : ℕ) → d < 10 → is_ascii_digit (digit_glyph false d) ≡ true
glyph_is_digit d h = rw (lt-ltb d 10 h) (and_from (nat_le 48 (48 + d)) (nat_le (48 + d) 57) (le-leb 48 (48 + d) (omega arith))
    (le-leb (48 + d) 57 (omega arith)))

digits_onto-all : (k n : ℕ) (acc : Text) → list_all is_ascii_digit acc ≡ true
    → list_all is_ascii_digit (digits_onto k 10 false n acc) ≡ true
digits_onto-all zero n acc h = h
digits_onto-all (suc k) n acc h =
    let here : list_all is_ascii_digit (digit_glyph false (n % 10) ∷ acc) ≡ true =
    and_from (is_ascii_digit (digit_glyph false (n % 10))) (list_all is_ascii_digit acc) (glyph_is_digit (n % 10) (omega arith)) h in
    elim (n / 10 == 0) as (λ b. list_all is_ascii_digit
    (cond b (digit_glyph false (n % 10) ∷ acc) (digits_onto k 10 false (n / 10) (digit_glyph false (n % 10) ∷ acc))) ≡ true) [
      | true ↦ here
      | false ↦ digits_onto-all k (n / 10) (digit_glyph false (n % 10) ∷ acc) here
    ]

pub decimal_digits : (n : ℕ) → list_all is_ascii_digit (decimal n) ≡ true
unfolding digits
decimal_digits n = digits_onto-all 64 n [] refl

value-one : (n : ℕ) → n < 10 → value_of ((48 + n) ∷ []) ≡ n
value-one n small = omega arith

value-more : (n : ℕ) (ds : List ℕ) → 10 ≤ n → value_of ds ≡ n / 10 → value_of (ds ++ (48 + n % 10) ∷ []) ≡ n
value-more n ds big so_far =
    let whole : n / 10 * 10 + n % 10 ≡ n = div-add-mod' n 10 in
    let less : 48 + n % 10 - 48 ≡ n % 10 = omega arith in
    fold-append (λ m b. m * 10 + (b - 48)) 0 ds ((48 + n % 10) ∷ []) ∙ rw (so_far, less) whole

-- the digits of a number are a numeral, and write it
pub numeral-decimal : (n : ℕ) → n < 2 ^ 64 → (is_numeral (decimal n) ≡ true) × (value_of (decimal n) ≡ n)
numeral-decimal n small = (
  and_from (nat_lt 0 (length (decimal n))) (list_all is_ascii_digit (decimal n)) (lt-ltb 0 (length (decimal n)) (decimal_nonempty n small))
      (decimal_digits n),
  decimal_by_steps (λ n ds. value_of ds ≡ n) value-one value-more n small,
)

pub trim-decimal : (n : ℕ) → trim (decimal n) ≡ decimal n
trim-decimal n = trim-digits (decimal n) (decimal_digits n)

pub no_break-decimal : (n : ℕ) → list_any is_line_break (decimal n) ≡ false
no_break-decimal n = list_any-excluded is_ascii_digit is_line_break (decimal n) digit_no_break (decimal_digits n)

pub decimal_no_space : (n : ℕ) → list_any is_space (decimal n) ≡ false
decimal_no_space n = list_any-excluded is_ascii_digit is_space (decimal n) digit_no_space (decimal_digits n)

ascii_digits : (xs : Text) → list_all is_ascii_digit xs ≡ true → (i : ℕ) → get_or xs i 0 < 128
ascii_digits [] h i = omega arith
ascii_digits (x ∷ xs) h zero = let range = digit_in_range x (and_parts (is_ascii_digit x) (list_all is_ascii_digit xs) h).0 in omega arith
ascii_digits (x ∷ xs) h (suc i) = ascii_digits xs (and_parts (is_ascii_digit x) (list_all is_ascii_digit xs) h).1 i

pub utf8_decimal : (n : ℕ) → IsUtf8 (decimal n)
utf8_decimal n = IsUtf8-from_ascii (decimal n) (ascii_digits (decimal n) (decimal_digits n))

pub IsLine-decimal : (n : ℕ) → IsLine (decimal n)
IsLine-decimal n = record { unbroken = no_break-decimal n; utf8 = utf8_decimal n }

-- ---- numbers of 64 bits

from_grows : (n : ℕ) (digits : List ℕ) → n ≤ fold (λ n b. n * 10 + (b - 48)) n digits
from_grows n [] = omega arith
from_grows n (b ∷ digits) = let rest = from_grows (n * 10 + (b - 48)) digits in omega arith

from_one-le : (n : ℕ) (digits : List ℕ) (i d : ℕ) → i < length digits
    → fold (λ n b. n * 10 + (b - 48)) n (take i digits) * 10 + (get_or digits i d - 48) ≤ fold (λ n b. n * 10 + (b - 48)) n digits
from_one-le n [] i d inside = absurd (omega arith)
from_one-le n (b ∷ digits) zero d inside = from_grows (n * 10 + (b - 48)) digits
from_one-le n (b ∷ digits) (suc i) d inside = from_one-le (n * 10 + (b - 48)) digits i d (omega arith)

-- where one digit more is too many, all are
pub in_64_bits-past : (digits : List ℕ) (i d : ℕ) → i < length digits → 2 ^ 64 ≤ value_of (take i digits) * 10 + (get_or digits i d - 48)
    → in_64_bits (value_of digits) ≡ None
in_64_bits-past digits i d inside past =
    let longer = from_one-le 0 digits i d inside in rw (le-ltb (value_of digits) (2 ^ 64) (omega arith)) refl

pub in_64_bits-fits : (n : ℕ) → n < 2 ^ 64 → in_64_bits n ≡ Some n
in_64_bits-fits n fits = rw (lt-ltb n (2 ^ 64) fits) refl

some-by : (n m : ℕ) (b : Bool) → cond b (Some n) None ≡ Some m → m ≡ n
some-by n m true e = cc
some-by n m false e = cc

pub in_64_bits-some : (n m : ℕ) → in_64_bits n ≡ Some m → m ≡ n
in_64_bits-some n m e = some-by n m (nat_lt n (2 ^ 64)) e

past-by : (n : ℕ) (b : Bool) → nat_lt n (2 ^ 64) ≡ b → cond b (Some n) None ≡ None → 2 ^ 64 ≤ n
past-by n true h e = cc
past-by n false h e = let far = ltb-false n (2 ^ 64) h in omega arith

pub in_64_bits-none : (n : ℕ) → in_64_bits n ≡ None → 2 ^ 64 ≤ n
in_64_bits-none n e = past-by n (nat_lt n (2 ^ 64)) refl e
