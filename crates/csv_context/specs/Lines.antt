-- Records without quotes. Each is a line, and its fields are the pieces between commas. An empty line is no record. A carriage return ends
-- a line, and so does a line feed.
use Rattle.std.specs.Prelude.{◌≡◌, ◌<◌, ℕ, ◌==◌, Bool, false, cond, List, [], ◌∷◌, ◌++◌, Option, Some, None, length, IsUtf8}
use Rattle.std.proofs.Common.{Bor}
use Rattle.std.specs.List.{list_any}
use Rattle.fca_model.specs.Tables.{Text}
use Rattle.fca_model.specs.Names.{is_line_break}
use Rattle.csv.specs.Reading.{default_config, records}
use Rattle.csv.specs.Records.{AllText}
use Rattle.csv_context.specs.Records.{Record}

-- a comma
abbrev pub is_comma : ℕ → Bool
is_comma b = b == 44

-- a double quote
abbrev pub is_quote : ℕ → Bool
is_quote b = b == 34

-- the pieces with a byte in front of the first
abbrev pub add_byte : ℕ → List Text → List Text
add_byte b [] = (b ∷ []) ∷ []
add_byte b (piece ∷ pieces) = (b ∷ piece) ∷ pieces

-- the pieces of a line between its commas
abbrev pub fields_in : Text → Record
fields_in [] = [] ∷ []
fields_in (b ∷ line) = cond (is_comma b) ([] ∷ fields_in line) (add_byte b (fields_in line))

-- the fields behind a comma, if there is one
abbrev pub fields_behind : Option (Bor (List ℕ)) → Record
fields_behind None = []
fields_behind (Some line) = fields_in line.now

-- the bytes from the first that ends no line on
abbrev pub without_ends : List ℕ → List ℕ
without_ends [] = []
without_ends (b ∷ bytes) = cond (is_line_break b) (without_ends bytes) (b ∷ bytes)

-- text without a quote
pub record IsUnquoted (bytes : List ℕ) : Type 0 where
  pub text : IsUtf8 bytes
  pub plain : list_any is_quote bytes ≡ false

-- the records of bytes that begin with no byte order mark
abbrev pub records_in : List ℕ → List Record
records_in bytes = records default_config bytes

-- the line is the first record of the bytes, and the others are those of the rest
pub record TakesLine (bytes line rest : List ℕ) : Type 0 where
  pub first : records_in bytes ≡ fields_in line ∷ records_in rest
  pub texts : AllText (fields_in line)
  pub unbroken : list_any is_line_break line ≡ false
  pub unquoted : IsUnquoted rest
  pub shorter : length rest < length bytes

-- the first of some fields
abbrev pub AreFirst : List Text → List Text → Type 0
AreFirst fields all = (rest : List Text) × (fields ++ rest ≡ all)
