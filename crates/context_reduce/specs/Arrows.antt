-- The arrows of a context, as one list for each object.
--
-- The rows {a, b}, {a, c}, {a} over a, b, c have the arrows `XXb`, `XbX`, `Xuu`: the third object has up arrows to b and c, since a alone
-- has a larger column than theirs, and no down arrow, since of the larger rows one lacks b and one lacks c. There is no arrow to a, and none
-- from the third object: these two are reducible. (Ganter and Wille, "Formal Concept Analysis", the arrow relations.)
use Rattle.std.specs.Prelude.{◌≡◌, ◌<◌, ℕ, Bool, true, false, not, List, [], length, map, slice_index_or}
use Rattle.std.specs.List.{list_any, range_with_len}
use Rattle.fca_model.specs.Context.{Context}
use Rattle.context_reduce.specs.declared.arrow.Arrow.{Arrow}
use Rattle.context_reduce.specs.declared.arrow.Arrow.TheVariants.{Cross, Plain, Down, Up, Both}
use Rattle.context_reduce.specs.Reduce.{row_at, column, transpose, reducible, down_arrow, up_arrow}

-- a cross, or the arrows if there is none
abbrev pub arrow_of : Bool → Bool → Bool → Arrow
arrow_of true down up = Cross
arrow_of false true true = Both
arrow_of false true false = Down
arrow_of false false true = Up
arrow_of false false false = Plain

-- how object g stands to attribute m
abbrev pub arrow_at : Context → ℕ → ℕ → Arrow
arrow_at K g m = arrow_of (slice_index_or (row_at K g) m false) (down_arrow K g m) (up_arrow K g m)

-- the arrows of each object, one list for each
unfoldable pub arrow_table : Context → List (List Arrow)
arrow_table K = map (λ g. map (arrow_at K g) (range_with_len 0 K.width)) (range_with_len 0 (length K.rows))

-- whether there is an up arrow
abbrev pub points_up : Arrow → Bool
points_up Up = true
points_up Both = true
points_up Cross = false
points_up Plain = false
points_up Down = false

-- whether there is a down arrow
abbrev pub points_down : Arrow → Bool
points_down Down = true
points_down Both = true
points_down Cross = false
points_down Plain = false
points_down Up = false

-- the lists of arrows show what is irreducible: the attributes to which there is an up arrow, and the objects from which there is a down
-- arrow
pub record TellIrreducibles (K : Context) (lists : List (List Arrow)) : Type 0 where
  pub attributes : (m : ℕ) → m < K.width → not (reducible (transpose K) (column K m)) ≡ list_any
      (λ list. points_up (slice_index_or list m Plain)) lists
  pub objects : (g : ℕ) → g < length K.rows → not (reducible K (row_at K g)) ≡ list_any points_down (slice_index_or lists g [])
