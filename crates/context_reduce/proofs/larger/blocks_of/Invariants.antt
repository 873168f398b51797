use Rattle.std.proofs.Common.{◌≡◌, map}
use Rattle.std.specs.List.{range_with_len}
use Rattle.context_reduce.specs.Blocks.{row_block}
use Rattle.context_reduce.specs.Reduce.{transpose}
use Rattle.context_reduce.proofs.larger.blocks_of.Given as goal

abbrev pub invariant-loop-k : goal.invariant-loop-k
invariant-loop-k g l = l.blocks.items ≡ map (λ k. transpose (row_block l.rows k)) (range_with_len 0 l.k)
