-- The words of a line, parted by one space.
use Rattle.std.specs.Prelude.{ℕ, Bool, ◌==◌}
use Rattle.std.specs.List.{before_first, after_first}
use Rattle.fca_model.specs.Tables.{Text}

abbrev pub is_space : ℕ → Bool
is_space byte = byte == 32

-- the text before the first space, or all of it without one
abbrev pub first_word : Text → Text
first_word text = before_first is_space text

-- the text behind the first space, or nothing without one
abbrev pub later_words : Text → Text
later_words text = after_first is_space text
