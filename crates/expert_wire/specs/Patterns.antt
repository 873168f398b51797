-- Patterns of sets, and rows with their names.
use Rattle.std.specs.Prelude.{ℕ, Bool, ◌&&◌, ◌==◌, nat_lt, cond, Option, Some, None, Result, Ok, Err, [], map, length, is_none, bytes_eq}
use Rattle.std.specs.Prelude.{codes}
use Rattle.std.specs.List.{list_all}
use Rattle.fca_model.specs.Names.{name_fault}
use Rattle.fca_model.specs.Sets.{Set}
use Rattle.fca_model.specs.Tables.{Text}
use Rattle.text_pieces.specs.Marks.{is_cross, is_mark}
use Rattle.text_pieces.specs.Words.{first_word, later_words}
use Rattle.expert_wire.specs.declared.requests.RequestFault.{RequestFault}
use Rattle.expert_wire.specs.declared.requests.RequestFault.TheVariants.{Line, Width}

-- the set of a pattern: one or more marks, or the dash of a set without attributes
abbrev pub set_of_pattern : Text → Option Set
set_of_pattern word = cond (bytes_eq word (codes "-")) (Some [])
    (cond (nat_lt 0 (length word) && list_all is_mark word) (Some (map is_cross word)) None)

-- ---- rows

-- a name without a fault
abbrev pub is_name : Text → Bool
is_name text = is_none (name_fault text)

-- the name and the row, if the row has the width
abbrev pub row_of_width : ℕ → Text → Option Set → Result (Text × Set) RequestFault
row_of_width n name None = Err Line
row_of_width n name (Some r) = cond (length r == n) (Ok (name, r)) (Err Width)

-- `PATTERN NAME`, of width n. The name is all that stands after the first space
abbrev pub named_row : ℕ → Text → Result (Text × Set) RequestFault
named_row n text = cond (is_name (later_words text)) (row_of_width n (later_words text) (set_of_pattern (first_word text))) (Err Line)
