use Rattle.std.proofs.Common.{◌≡◌, ◌-◌, length, true}
use Rattle.fca_model.specs.Sets.{agree_before}
use Rattle.lectic_basis.specs.Watches.{bucket, IsSettling}
use Rattle.lectic_basis.proofs.closing.settle.Given as goal

abbrev pub invariant-loop-k : goal.invariant-loop-k
invariant-loop-k g l = record {
  list : l.found.list ≡ l.fn.found.list;
  settling : IsSettling l.z l.k l.fn.reached l.reached l.fn.found.buckets l.found.buckets;
  agree : agree_before l.limit l.done l.reached ≡ true;
}

abbrev pub decreases-loop-k : goal.decreases-loop-k
decreases-loop-k g l = length (bucket l.z l.found.buckets) - l.k
