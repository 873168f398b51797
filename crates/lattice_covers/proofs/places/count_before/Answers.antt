use Rattle.std.proofs.Common.{rules}
use Rattle.std.proofs.lemmas.List.Sorted.{IsPartitionPoint-from_clause}
use Rattle.std.specs.Ordering.{is_lt}
use Rattle.fca_model.specs.Sets.{lectic_cmp}
use Rattle.lattice_covers.proofs.PlaceLemmas.{partitioned, place_from_point}
use Rattle.lattice_covers.proofs.places.count_before.Goals as goal

pub returns : goal.returns
returns g c ordered =
    let Xs = c.args.sets.now in
    let X = c.args.x.now in
    place_from_point Xs X c.partition_point.result c.partition_point.ensures.bound
    (IsPartitionPoint-from_clause (λ Y. is_lt (lectic_cmp Y X)) Xs c.partition_point.result c.partition_point.ensures.partitioned
    (partitioned Xs X ordered) (λ a r f called. search rules))
