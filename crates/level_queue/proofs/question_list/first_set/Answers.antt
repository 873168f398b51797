use Rattle.std.proofs.Common.{rules}
use Rattle.std.proofs.lemmas.List.Sorted.{IsPartitionPoint-from_clause}
use Rattle.std.specs.Ordering.{is_lt}
use Rattle.fca_model.specs.Sets.{lectic_cmp}
use Rattle.level_queue.proofs.PlaceLemmas.{partitioned}
use Rattle.level_queue.proofs.question_list.first_set.Goals as goal

pub returns : goal.returns
returns c =
    let point = IsPartitionPoint-from_clause (λ A. is_lt (lectic_cmp A c.args.set.now)) c.args.sets.now _
    c.partition_point.ensures.partitioned (partitioned c.args.set.now c.args.sets.now c.requires) (λ a r f k. search rules) in
    record { inside = c.partition_point.ensures.bound; before = point.0; behind = point.1 }
