use Rattle.std.proofs.Common.{◌≡◌, filter, take}
use Rattle.std.specs.List.{flat_map}
use Rattle.direct_basis.specs.Direct.{proper}
use Rattle.direct_basis.specs.Levels.{free, larger, placed}
use Rattle.direct_basis.proofs.levels.larger_free_sets.Given as goal

abbrev pub invariant-loop-set : goal.invariant-loop-set
invariant-loop-set l = record {
  free_sets : l.next.items ≡ filter (free l.rows) (flat_map larger (take l.set-index l.free_sets));
  found : l.found.keys ≡ placed l.initial.found.keys (filter (proper l.rows) (flat_map larger (take l.set-index l.free_sets)));
}
