use Rattle.std.proofs.Common.{map, ap, ◌∙◌}
use Rattle.lectic_basis.proofs.BucketLemmas.{bucket_map}
use Rattle.lectic_basis.proofs.watched_list.WatchedList.new.Goals as goal

pub returns-clause-empty : goal.returns-clause-empty
returns-clause-empty g c = λ w. bucket_map _ w (map (λ v. v.items) c.in_ok-buckets.buckets.items)
    ∙ ap (map _) (c.in_ok-buckets.ensures.empty w)
