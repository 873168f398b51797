use Rattle.std.proofs.Common.{◌≡◌, ◌-◌, ◌≤◌, true, length, map}
use Rattle.fca_model.specs.Sets.{within}
use Rattle.fca_model.specs.Context.{Context}
use Rattle.context_reduce.specs.Reduce.{transpose}
use Rattle.context_reduce.proofs.larger.may_contain.Given as goal

abbrev pub invariant-loop-m : goal.invariant-loop-m
invariant-loop-m g l = record {
  in_range : l.from ≤ length l.set;
  found : (B : Context) → l.columns ≡ transpose B → within (map (within l.set) B.rows) l.left ≡ true;
}

abbrev pub decreases-loop-m : goal.decreases-loop-m
decreases-loop-m g l = length l.set - l.from
