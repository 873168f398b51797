use Rattle.std.proofs.Common.{◌≡◌, map}
use Rattle.std.specs.List.{range_with_len}
use Rattle.extent_places.specs.Places.{column}
use Rattle.extent_places.proofs.columns.Columns.of.Given as goal

abbrev pub invariant-loop-attribute : goal.invariant-loop-attribute
invariant-loop-attribute g l = map (λ list. list.items) l.lists.items ≡ map (column l.rows.rows) (range_with_len 0 l.attribute)
