use Rattle.std.proofs.Common.{◌∙◌, ◌&&◌, take, ap, arith}
use Rattle.std.proofs.lemmas.Bool.{false≢true}
use Rattle.std.proofs.lemmas.List.{take_all}
use Rattle.std.specs.List.{list_any}
use Rattle.extent_blocks.specs.Blocks.{in_block, in_column, contains_at}
use Rattle.extent_blocks.proofs.RowLemmas.{meeting_ends, blocks_met, block_contained}
use Rattle.extent_blocks.proofs.extent.meet_of_rows.Goals as goal

pub loop-block-init : goal.loop-block-init
loop-block-init g c = record {
  meeting = c.last_row-met.ensures;
  met = λ p e. absurd (false≢true e);
}

pub meet_rows-met-requires : goal.meet_rows-met-requires
meet_rows-met-requires g c = (
  omega arith,
  (
    omega (arith, c.width-width.ensures.words),
    (
      c.loop-block.invariant.meeting,
      λ p t. block_contained (λ x q. in_block x.number x.objects q)
          (in_column c.args.column.now) c.args.blocks.now c.loop-block.block-index c.block-item.result c.loop-block-test.true
          c.block-item.is
          (contains_at c.args.rows.now c.args.a.now) c.requires.extent p t,
    ),
  ),
)

pub loop-block-preserved : goal.loop-block-preserved
loop-block-preserved g c = record {
  meeting = c.meet_rows-met.ensures.meeting;
  met = blocks_met (λ x p. in_block x.number x.objects p)
      (in_column c.args.column.now) c.args.blocks.now c.loop-block.block-index c.block-item.result c.loop-block-test.true c.block-item.is
      c.args.rows.now c.loop-block.met c.meet_rows-met.result c.meet_rows-met.ensures.less c.loop-block.invariant.met
      c.meet_rows-met.ensures.below;
}

pub returns : goal.returns
returns g c = meeting_ends c.args.rows.now c.args.a.now c.loop-block.met
    (λ p. list_any (λ x. in_block x.number x.objects p) (take c.loop-block.block-index c.args.blocks.now) && in_column c.args.column.now p)
    c.loop-block.invariant.meeting
    (λ p. ap (λ xs. list_any (λ x. in_block x.number x.objects p) xs && in_column c.args.column.now p)
    (take_all c.loop-block.block-index c.args.blocks.now (omega (arith, c.loop-block-test.false))) ∙ c.requires.extent p)
    c.loop-block.invariant.met
