-- Addresses to listen at: a host, the last colon, and a port.
--
-- `127.0.0.1:7000` and `[::1]:7000` are some; `localhost`, `:7000`, `x:0`, `x:+7000`, `x:07000` and `x:65536` are none.
use Rattle.std.specs.Prelude.{ℕ, ◌+◌, ◌==◌, ◌&&◌, not, nat_lt, nat_le, Bool, false, Option, Some, None, length, drop, get_or}
use Rattle.std.specs.Path.{rfind_below}
use Rattle.fca_model.specs.Tables.{Text}
use Rattle.text_pieces.specs.Numerals.{is_numeral, value_of}

-- one to five digits, the first no 0, of a number of 16 bits
abbrev pub is_port : Text → Bool
is_port digits = is_numeral digits && nat_le (length digits) 5 && not (get_or digits 0 0 == 48) && nat_le (value_of digits) 65535

-- the text before the colon at this place is not empty, and the text after it is a port
unfoldable pub parts_at : Text → Option ℕ → Bool
parts_at text None = false
parts_at text (Some place) = nat_lt 0 place && is_port (drop (place + 1) text)

abbrev pub is_address : Text → Bool
is_address text = parts_at text (rfind_below 58 text (length text))
