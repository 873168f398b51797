use Rattle.std.proofs.Common.{◌≡◌, filter, take}
use Rattle.std.specs.BTreeSet.{contains}
use Rattle.std.specs.List.{range_with_len, list_any}
use Rattle.fca_model.specs.Sets.{Set, same, lectic_cmp}
use Rattle.context_reduce.specs.Reduce.{is_first}
use Rattle.context_reduce.proofs.rows.distinct_objects.Given as goal

abbrev pub invariant-loop-g : goal.invariant-loop-g
invariant-loop-g l = record {
  places : l.places ≡ filter (is_first l.rows) (range_with_len 0 l.g);
  seen : (A : Set) → contains lectic_cmp l.seen A ≡ list_any (same A) (take l.g l.rows.rows);
}
