-- Blanks: spaces and tabs. A line of them alone is a blank line, and so is an empty one.
use Rattle.std.specs.Prelude.{ℕ, ◌==◌, ◌||◌, ◌&&◌, Bool, cond, [], ◌∷◌}
use Rattle.std.specs.List.{list_all}
use Rattle.fca_model.specs.Tables.{Text}

-- a space or a tab
abbrev pub is_blank : ℕ → Bool
is_blank b = (b == 32) || (b == 9)

-- the line has only blanks, or nothing
abbrev pub is_blank_line : Text → Bool
is_blank_line line = list_all is_blank line

-- the line without the blanks before its first other byte
abbrev pub without_blanks_before : Text → Text
without_blanks_before [] = []
without_blanks_before (b ∷ line) = cond (is_blank b) (without_blanks_before line) (b ∷ line)

-- the line without the blanks after its last other byte
abbrev pub without_blanks_after : Text → Text
without_blanks_after [] = []
without_blanks_after (b ∷ line) = cond (is_blank b && is_blank_line line) [] (b ∷ without_blanks_after line)

-- the line without the blanks at its ends
abbrev pub trim : Text → Text
trim line = without_blanks_after (without_blanks_before line)
