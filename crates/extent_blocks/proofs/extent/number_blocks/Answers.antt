use Rattle.std.proofs.Common.{◌∙◌, arith}
use Rattle.extent_blocks.proofs.BlockLemmas.{all_numbered}
use Rattle.extent_blocks.proofs.extent.number_blocks.Goals as goal

pub returns : goal.returns
returns c = λ p. c.loop-number.invariant p ∙ all_numbered c.args.column.now c.loop-number.number p (omega (arith, c.loop-number-test.false))
