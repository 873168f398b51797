use Rattle.std.proofs.Common.{ap, ◌∙◌}
use Rattle.extent_blocks.specs.Blocks.{in_block, in_column}
use Rattle.extent_blocks.proofs.BlockLemmas.{kept_some, kept_none}
use Rattle.extent_blocks.proofs.extent.keep_in.Goals.{in-Some+in_ok-push, in_default}
use Rattle.extent_blocks.proofs.extent.keep_in.Goals as goal

pub loop-block-preserved : goal.loop-block-preserved
loop-block-preserved c = λ p. elim c.match-meet.branch [
  | in-Some+in_ok-push w ↦ kept_some (λ x. in_block x.number x.objects p) c.args.blocks.now c.loop-block.block-index c.block-item.result
      (in_column c.args.column.now p) c.loop-block-test.true c.block-item.is
      c.loop-block.kept.items c.match-meet.kept.items (c.loop-block.invariant p) w.in-Some.fewer (w.in-Some.ensures p)
      (ap (λ v. v.items) w.kept-is ∙ w.in_ok-push.ensures.items)
  | in_default w ↦ kept_none (λ x. in_block x.number x.objects p) c.args.blocks.now c.loop-block.block-index c.block-item.result
      (in_column c.args.column.now p) c.loop-block-test.true c.block-item.is
      c.loop-block.kept.items c.match-meet.kept.items (c.loop-block.invariant p) (w.in_default.ensures p) (ap (λ v. v.items) w.kept-is)
]
