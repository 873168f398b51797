use Rattle.std.proofs.Common.{◌≡◌}
use Rattle.lectic_basis.proofs.WaitLemmas.{IsWaiting}
use Rattle.lectic_basis.proofs.watched_list.WatchedList.of_narrow.Given as goal

abbrev pub invariant-loop-place : goal.invariant-loop-place
invariant-loop-place g l = record {
  list : l.watched.list ≡ l.fn.list;
  waiting : IsWaiting l.fn.list.width l.fn.list.members l.x l.place l.watched.buckets;
}
