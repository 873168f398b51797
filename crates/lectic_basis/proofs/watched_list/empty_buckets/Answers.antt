use Rattle.std.proofs.Common.{◌+◌, ◌∙◌, ℕ, length, ap}
use Rattle.std.proofs.lemmas.List.{length_push}
use Rattle.lectic_basis.proofs.BucketLemmas.{emptied_more}
use Rattle.lectic_basis.proofs.watched_list.empty_buckets.Goals as goal

pub loop-preserved : goal.loop-preserved
loop-preserved c = record {
  room = ap length c.in_ok-push.ensures.items ∙ length_push c.loop.buckets.items c.new.result ∙ ap (λ (n : ℕ). n + 1) c.loop.invariant.room;
  empty = emptied_more (λ v. v.items) c.loop.buckets.items c.push.new.self.items c.new.result c.in_ok-push.ensures.items c.new.ensures.items
      c.loop.invariant.empty;
}
