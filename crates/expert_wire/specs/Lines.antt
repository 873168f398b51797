-- The lines of a text that are not skipped.
use Rattle.std.specs.Prelude.{ℕ, Bool, not, ◌||◌, ◌==◌, List, filter, slice_index}
use Rattle.std.specs.List.{enumerate_from}
use Rattle.fca_model.specs.Tables.{Text}
use Rattle.text_pieces.specs.Blanks.{is_blank_line}

-- a line that is blank or begins with `#`
abbrev pub is_skipped : Text → Bool
is_skipped line = is_blank_line line || (slice_index line 0 == 35)

-- the lines that are not skipped, each with its number. Numbers begin at k
abbrev pub numbered_lines : ℕ → List Text → List (ℕ × Text)
numbered_lines k ls = filter (λ l. not (is_skipped l.1)) (enumerate_from k ls)
