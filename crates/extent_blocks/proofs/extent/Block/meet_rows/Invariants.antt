use Rattle.std.proofs.Common.{◌≤◌, ◌-◌, ◌&&◌, length}
use Rattle.extent_blocks.specs.Blocks.{in_block, in_column}
use Rattle.extent_blocks.proofs.RowLemmas.{HasMet}
use Rattle.extent_blocks.proofs.extent.Block.meet_rows.Given as goal

abbrev pub invariant-loop-j : goal.invariant-loop-j
invariant-loop-j g l = record {
  inside : l.from ≤ length l.left;
  met : HasMet l.rows l.a l.start (λ p. in_block l.self.number l.self.objects p && in_column l.column p) l.from l.met;
}

abbrev pub decreases-loop-j : goal.decreases-loop-j
decreases-loop-j g l = length l.left - l.from
