use Rattle.std.proofs.Common.{◌≡◌, ◌+◌, [], filter}
use Rattle.std.specs.List.{flat_map, range_with_len}
use Rattle.direct_basis.specs.Direct.{proper}
use Rattle.direct_basis.specs.Levels.{free, visited, placed}
use Rattle.direct_basis.proofs.levels.search.Given as goal

abbrev pub invariant-loop-size : goal.invariant-loop-size
invariant-loop-size l = record {
  free_sets : l.free_sets.items ≡ filter (free l.rows) (visited l.rows l._size);
  found : l.found.keys ≡ placed [] (filter (proper l.rows) (flat_map (visited l.rows) (range_with_len 0 (l._size + 1))));
}
