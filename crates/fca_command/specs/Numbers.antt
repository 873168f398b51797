-- Numbers in words: 1 to 20 decimal digits, and the first may be zeros.
--
-- Up to 64, `064` says 64, and `65`, `+6`, `` and twenty-one zeros say nothing.
use Rattle.std.specs.Prelude.{ℕ, ◌&&◌, nat_le, cond, Option, Some, None, length}
use Rattle.fca_model.specs.Tables.{Text}
use Rattle.text_pieces.specs.Numerals.{is_numeral, value_of}

-- the number that a word says, if it is at most `most`
abbrev pub number_of : ℕ → Text → Option ℕ
number_of most word =
    cond (is_numeral word && nat_le (length word) 20) (cond (nat_le (value_of word) most) (Some (value_of word)) None) None
