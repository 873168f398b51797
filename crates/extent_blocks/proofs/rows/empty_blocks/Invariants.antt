use Rattle.std.proofs.Common.{◌≡◌, false, replicate}
use Rattle.extent_blocks.proofs.rows.empty_blocks.Given as goal

abbrev pub invariant-loop : goal.invariant-loop
invariant-loop l = l.blocks.items ≡ replicate l.counter (replicate 256 false)
