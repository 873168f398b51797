use Rattle.std.proofs.Common.{arith}
use Rattle.lectic_basis.proofs.EntryLemmas.{stored_count}
use Rattle.lectic_basis.proofs.watched_list.WatchedList.count.Goals as goal

pub returns : goal.returns
returns g c =
    let held = stored_count (λ v. v.items) c.self.inside.list c.self.inside.buckets.items c.args.self.now
    (c.self.view_is, c.self.invariant.entries) c.args.z c.index.result.now c.requires c.index.ensures in
    omega (arith, held, c.len.ensures, c.index.result.now.ok.0)
