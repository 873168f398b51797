-- Sets of attributes as marks, one for each attribute: a cross for a member, and a dot for none.
use Rattle.std.specs.Prelude.{ℕ, Bool, true, false, ◌||◌, ◌==◌, map}
use Rattle.fca_model.specs.Sets.{Set}
use Rattle.fca_model.specs.Tables.{Text}

-- the character X, large or small
abbrev pub is_cross : ℕ → Bool
is_cross byte = (byte == 88) || (byte == 120)

-- a cross, or a dot
abbrev pub is_mark : ℕ → Bool
is_mark byte = is_cross byte || (byte == 46)

-- the mark that is written: a large X for a member, and a dot for none
abbrev pub mark_of : Bool → ℕ
mark_of true = 88
mark_of false = 46

-- the marks that are written of a set
abbrev pub marks_of : Set → Text
marks_of set = map mark_of set
