use Rattle.std.proofs.Common.{◌≡◌, map}
use Rattle.std.specs.List.{range_with_len}
use Rattle.context_reduce.specs.Reduce.{attributes_above}
use Rattle.context_reduce.proofs.finding.all_attributes_above.Given as goal

abbrev pub invariant-loop-m : goal.invariant-loop-m
invariant-loop-m l = l.sets.items ≡ map (attributes_above l.rows) (range_with_len 0 l.m)
