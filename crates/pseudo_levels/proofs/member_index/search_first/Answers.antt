use Rattle.std.proofs.Common.{◌≡◌, ◌∙◌, ◌+◌, ◌*◌, suc, true, List, map, sym, subst, arith}
use Rattle.fca_model.specs.Implications.{Rule}
use Rattle.fca_model.specs.Levels.{absorbs_all}
use Rattle.pseudo_levels.specs.Index.{bucket}
use Rattle.pseudo_levels.proofs.IndexLemmas.{broken_in_bucket, absorbs_unbroken, next_reached}
use Rattle.pseudo_levels.proofs.member_index.search_first.Goals as goal

pub returns-in-Some-search_bucket : goal.returns-in-Some-search_bucket
returns-in-Some-search_bucket c = broken_in_bucket
    (map (λ v. v.items) c.args.buckets.now) c.bucket_of_pair.result c.args.set.now c.in-Some-search_bucket.i
    (sym c.search_bucket.ensures ∙ c.in-Some-search_bucket.is)

pub loop-second-preserved : goal.loop-second-preserved
loop-second-preserved c =
    let Bs : List (List Rule) = map (λ v. v.items) c.args.buckets.now in
    let X = c.args.set.now in
    record {
      in_range = omega (arith, c.in-Some.ensures.in_range);
      reached = next_reached (λ b. absorbs_all (bucket (suc (c.args.first * c.args.width + b)) Bs) X ≡ true) X c.args.first
          c.loop-second.from c.in-Some.second c.in-Some.ensures c.loop-second.invariant.reached
          (subst (λ s. absorbs_all (bucket s Bs) X ≡ true) c.bucket_of_pair.ensures
          (absorbs_unbroken X (bucket c.bucket_of_pair.result Bs) (sym c.search_bucket.ensures ∙ c.in_default-search_bucket.is)));
    }
