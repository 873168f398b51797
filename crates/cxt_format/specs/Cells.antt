-- The cells of a row, many at a time.
use Rattle.std.specs.Prelude.{ℕ, cond, List, Option, Some, None, map}
use Rattle.std.specs.List.{list_all}
use Rattle.std.specs.Simd.Lanes.{mask_l}
use Rattle.text_pieces.specs.Marks.{is_cross, is_mark}

-- the crosses of the cells as the bits of a number, from the lowest on, if each cell is a mark
abbrev pub crosses_if_marks : List ℕ → Option ℕ
crosses_if_marks cells = cond (list_all is_mark cells) (Some (mask_l (map is_cross cells))) None
