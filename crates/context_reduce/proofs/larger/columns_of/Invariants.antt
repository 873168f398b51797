use Rattle.std.proofs.Common.{◌≡◌, map, length}
use Rattle.std.specs.List.{range_with_len}
use Rattle.context_reduce.specs.Blocks.{row_block}
use Rattle.context_reduce.specs.Reduce.{column}
use Rattle.context_reduce.proofs.larger.columns_of.Given as goal

abbrev pub invariant-loop-m : goal.invariant-loop-m
invariant-loop-m g l = l.columns ≡ record {
  width = length (row_block l.rows l.k).rows;
  rows = map (column (row_block l.rows l.k)) (range_with_len 0 l.m);
}
