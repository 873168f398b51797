use Rattle.std.proofs.Common.{◌≡◌, ◌++◌, map, filter, set, true}
use Rattle.std.specs.List.{range_with_len}
use Rattle.direct_basis.specs.Direct.{proper}
use Rattle.direct_basis.specs.Levels.{free, placed}
use Rattle.direct_basis.proofs.levels.grow.Given as goal

abbrev pub invariant-loop-i : goal.invariant-loop-i
invariant-loop-i l = record {
  free_sets : l.free_sets.items ≡ l.initial.free_sets.items ++ filter (free l.rows) (map (λ i. set l.set i true) (range_with_len 0 l.i));
  found : l.found.keys ≡ placed l.initial.found.keys (filter (proper l.rows) (map (λ i. set l.set i true) (range_with_len 0 l.i)));
}
