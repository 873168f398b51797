use Rattle.std.proofs.Common.{◌&&◌, ◌∙◌, List, sym, ap, ap₂}
use Rattle.std.proofs.lemmas.Result.{on_ok_weaker}
use Rattle.std.specs.List.{list_any}
use Rattle.extent_blocks.specs.Blocks.{NumberedBlock, in_block, in_blocks}
use Rattle.extent_blocks.proofs.BlockLemmas.{blocks_of}
use Rattle.extent_blocks.proofs.extent.BlockExtent.set_having.Goals as goal

pub returns : goal.returns
returns g c = on_ok_weaker c.keep_in.result (λ kept p.
    blocks_of (λ x. x.number) (λ x. x.objects) c.keep_in.new.kept.items p ∙ kept p
    ∙ ap₂ (λ a b. a && b)
    (ap (λ xs. list_any (λ x. in_block x.number x.objects p) xs) c.deref.ensures.value
    ∙ sym (blocks_of (λ x. x.number) (λ x. x.objects) c.other.inside.blocks.items p)
    ∙ ap (λ (Ps : List NumberedBlock). in_blocks Ps p) c.other.view_is)
    (c.column.ensures.places p))
    c.keep_in.ensures
