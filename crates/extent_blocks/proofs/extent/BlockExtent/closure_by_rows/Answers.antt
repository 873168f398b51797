use Rattle.std.proofs.Common.{◌&&◌, ◌∙◌, List, sym, ap, ap₂, arith}
use Rattle.std.specs.List.{list_any}
use Rattle.fca_model.specs.Context.{Context}
use Rattle.extent_blocks.specs.Blocks.{NumberedBlock, contains_at, in_block, in_blocks}
use Rattle.extent_blocks.proofs.BlockLemmas.{blocks_of}
use Rattle.extent_blocks.proofs.extent.BlockExtent.closure_by_rows.Goals as goal

pub meet_of_rows-requires : goal.meet_of_rows-requires
meet_of_rows-requires g c = (
  omega arith,
  (
    omega (arith, c.width-width.ensures.words),
    (
      c.requires.wide ∙ sym (ap (λ (X : Context). X.width) c.rows-2.ensures),
      λ p.
          ap₂ (λ a b. a && b)
          (ap (λ xs. list_any (λ x. in_block x.number x.objects p) xs) c.deref.ensures.value
          ∙ sym (blocks_of (λ x. x.number) (λ x. x.objects) c.self.inside.blocks.items p)
          ∙ ap (λ (Ps : List NumberedBlock). in_blocks Ps p) c.self.view_is)
          (c.column.ensures.places p)
          ∙ c.requires.extent p ∙ sym (ap (λ (X : Context). contains_at X c.args.a.now p) c.rows-2.ensures),
    ),
  ),
)
