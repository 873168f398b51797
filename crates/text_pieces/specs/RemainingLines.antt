-- The rest of a text that is read line by line.
use Rattle.std.specs.Prelude.{ℕ, ◌+◌, cond, List, [], ◌∷◌}
use Rattle.text_pieces.specs.Lines.{Line}
use Rattle.text_pieces.specs.Blanks.{is_blank_line}

-- the number of the next line, and the lines
pub record RemainingLines : Type 0 where
  pub number : ℕ
  pub lines : List Line

abbrev pub after_blanks_of : ℕ → List Line → RemainingLines
after_blanks_of k [] = record { number = k; lines = [] }
after_blanks_of k (line ∷ lines) = cond (is_blank_line line) (after_blanks_of (k + 1) lines) (record { number = k; lines = line ∷ lines })

-- the rest after the blank lines at the front
abbrev pub after_blanks : RemainingLines → RemainingLines
after_blanks left = after_blanks_of left.number left.lines

abbrev pub after_blank_of : ℕ → List Line → RemainingLines
after_blank_of k [] = record { number = k; lines = [] }
after_blank_of k (line ∷ lines) = cond (is_blank_line line) (record { number = k + 1; lines = lines })
    (record { number = k; lines = line ∷ lines })

-- the rest after the next line, if that is blank
abbrev pub after_blank : RemainingLines → RemainingLines
after_blank left = after_blank_of left.number left.lines
