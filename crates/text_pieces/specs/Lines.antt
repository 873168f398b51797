-- The lines of a text. A line is a piece between line feeds; what follows the last line feed is a line only if it is not empty.
-- One carriage return at the end of a line is no part of it, with or without a line feed behind it (std's `lines` keeps it
-- without one).
use Rattle.std.specs.Prelude.{ℕ, Bool, ◌==◌, List, [], ◌∷◌, ◌++◌, map}
use Rattle.std.specs.List.{slice_split}
use Rattle.std.specs.Str.Lines.{strip_carriage_return}
use Rattle.fca_model.specs.Tables.{Text}

-- a line, as its bytes
abbrev pub Line : Type 0
Line = Text

abbrev pub is_line_feed : ℕ → Bool
is_line_feed byte = byte == 10

-- the text alone, if it is not empty
abbrev pub unless_empty : Text → List Line
unless_empty [] = []
unless_empty (byte ∷ bytes) = (byte ∷ bytes) ∷ []

-- without a last piece that is empty
abbrev pub without_empty_end : List Text → List Line
without_empty_end [] = []
without_empty_end (x ∷ []) = unless_empty x
without_empty_end (x ∷ y ∷ more) = x ∷ without_empty_end (y ∷ more)

-- the pieces between line feeds, each without the one carriage return at its end
abbrev pub lines : Text → List Line
lines bytes = map strip_carriage_return (without_empty_end (slice_split is_line_feed bytes))

-- the bytes of a list of lines, each ended by a line feed
abbrev pub text_of : List Line → Text
text_of [] = []
text_of (line ∷ more) = line ++ 10 ∷ text_of more
