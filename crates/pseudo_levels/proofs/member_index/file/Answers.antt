use Rattle.std.proofs.Common.{length, map}
use Rattle.pseudo_levels.proofs.IndexLemmas.{put_is, put_back, on_err_from}
use Rattle.pseudo_levels.proofs.member_index.file.Goals as goal

pub returns-in_err-push-clause-err : goal.returns-in_err-push-clause-err
returns-in_err-push-clause-err c =
    on_err_from c.from_residual-in_err-push.result
    (put_back (λ v. v.items) c.make_room.new.buckets.items
    (map (λ v. v.items) c.args.buckets.now.items) c.bucket_of-place.result c.index_mut.result.now c.push.new.self
    c.in_ok-make_room.ensures.room c.make_room.ensures.same c.index_mut.ensures.value c.in_err-push.ensures.items)

pub returns-clause-ok : goal.returns-clause-ok
returns-clause-ok c =
    put_is (length c.args.i.now.premise) (λ v. v.items) c.make_room.new.buckets.items
    (map (λ v. v.items) c.args.buckets.now.items) c.bucket_of-place.result c.index_mut.result.now c.push.new.self c.args.i.now
    c.in_ok-make_room.ensures.room c.bucket_of-place.ensures.met c.make_room.ensures.same c.index_mut.ensures.value
    c.in_ok-push.ensures.items
