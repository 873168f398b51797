use Rattle.std.proofs.Common.{◌≡◌, ◌-◌}
use Rattle.fca_model.specs.Sets.{size}
use Rattle.lectic_basis.proofs.WatchLemmas.{IsClosing}
use Rattle.lectic_basis.proofs.closing.close.Given as goal

abbrev pub invariant-loop-z : goal.invariant-loop-z
invariant-loop-z g l = record {
  list : l.found.list ≡ l.fn.found.list;
  closing : IsClosing l.fn.found.list.width l.fn.found.list.members l.limit l.done l.fn.reached l.seen l.reached l.fn.found.buckets
      l.found.buckets;
}

abbrev pub decreases-loop-z : goal.decreases-loop-z
decreases-loop-z g l = l.fn.found.list.width - size l.seen
