use Rattle.std.proofs.Common.{◌∙◌, ap, arith}
use Rattle.fca_model.specs.Sets.{Set}
use Rattle.fca_model.specs.Exploration.{first_missing}
use Rattle.extent_blocks.proofs.BlockLemmas.{first_or_none, lent}
use Rattle.extent_blocks.proofs.extent.Block.first_of.Goals as goal

pub returns : goal.returns
returns c =
    let n = c.args.self.now.number in
    let O : Set = c.args.self.now.objects in
    let C : Set = c.in-Some.with.now in
    let D : Set = c.index-lacking-self.result in
    first_or_none n O C D c.args.having.now c.args.lacking.now
    (lent c.args.having.now n C c.in-Some.ensures.lookup.3.0 c.in-Some.ensures.lookup.1)
    (lent c.args.lacking.now n D (omega (arith, c.requires, c.in-Some.ensures.lookup.3.0)) c.index-lacking-self.is)
    c.first_missing.result (c.first_missing.ensures ∙ ap (λ (X : Set). first_missing 0 X D) c.meet.ensures)
    (omega (arith, c.width-width.ensures.width, c.width-width.ensures.narrow))
