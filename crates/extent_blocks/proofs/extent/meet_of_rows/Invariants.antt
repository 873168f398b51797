use Rattle.std.proofs.Common.{◌&&◌, take}
use Rattle.std.specs.List.{list_any}
use Rattle.extent_blocks.specs.Blocks.{IsMeeting, IsMet, in_block, in_column}
use Rattle.extent_blocks.proofs.extent.meet_of_rows.Given as goal

abbrev pub invariant-loop-block : goal.invariant-loop-block
invariant-loop-block g l = record {
  meeting : IsMeeting l.rows l.a l.met;
  met : IsMet l.rows (λ p. list_any (λ x. in_block x.number x.objects p) (take l.block-index l.blocks) && in_column l.column p) l.met;
}
