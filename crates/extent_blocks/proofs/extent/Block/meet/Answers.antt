use Rattle.std.proofs.Common.{◌∙◌, ap}
use Rattle.fca_model.specs.Sets.{Set}
use Rattle.extent_blocks.specs.Blocks.{in_block}
use Rattle.extent_blocks.proofs.BlockLemmas.{met_place, none_met, lent}
use Rattle.extent_blocks.proofs.extent.Block.meet.Goals as goal

pub returns-in-None : goal.returns-in-None
returns-in-None c =
    let C : Set = c.in-Some.having.now in
    none_met c.args.self.now.number c.args.self.now.objects c.meet-objects.result C c.args.column.now
    (lent c.args.column.now c.args.self.now.number C c.in-Some.ensures.lookup.3.0 c.in-Some.ensures.lookup.1) c.meet-objects.ensures
    c.in-None.ensures

pub returns-in-Some-next_member : goal.returns-in-Some-next_member
returns-in-Some-next_member c = λ p.
    let C : Set = c.in-Some.having.now in
    ap (λ (O : Set). in_block c.args.self.now.number O p) c.meet-objects.ensures
    ∙ met_place c.args.self.now.number c.args.self.now.objects p C c.args.column.now
    (lent c.args.column.now c.args.self.now.number C c.in-Some.ensures.lookup.3.0 c.in-Some.ensures.lookup.1)
