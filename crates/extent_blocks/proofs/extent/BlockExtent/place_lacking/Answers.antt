use Rattle.std.proofs.Common.{◌≡◌, ◌∙◌, ℕ, List, sym, ap}
use Rattle.std.specs.List.{list_any}
use Rattle.extent_blocks.specs.Blocks.{NumberedBlock, in_block, in_blocks}
use Rattle.fca_model.proofs.ListLemmas.{MatchOption-weaker}
use Rattle.extent_blocks.proofs.BlockLemmas.{blocks_of}
use Rattle.extent_blocks.proofs.extent.BlockExtent.place_lacking.Goals as goal

pub returns : goal.returns
returns g c =
    let seen : (p : ℕ) → list_any (λ x. in_block x.number x.objects p) c.deref.result.now ≡ in_blocks c.args.self.now p = λ p.
    ap (λ xs. list_any (λ x. in_block x.number x.objects p) xs) c.deref.ensures.value
    ∙ sym (blocks_of (λ x. x.number) (λ x. x.objects) c.self.inside.blocks.items p)
    ∙ ap (λ (Ps : List NumberedBlock). in_blocks Ps p) c.self.view_is in
    MatchOption-weaker c.first_lacking.result
    (λ f p s t. sym (c.column-2.ensures.places p) ∙ f p (seen p ∙ s) (c.column.ensures.places p ∙ t))
    (λ p h. (sym (seen p) ∙ h.0, sym (c.column.ensures.places p) ∙ h.1, sym (c.column-2.ensures.places p) ∙ h.2))
    c.first_lacking.ensures
