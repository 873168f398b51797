use Rattle.std.proofs.Common.{◌∙◌, List, ap}
use Rattle.fca_model.specs.Sets.{Set}
use Rattle.fca_model.specs.Context.{Context}
use Rattle.extent_blocks.specs.Blocks.{in_column, contains_at}
use Rattle.extent_blocks.proofs.BlockLemmas.{blocks_of}
use Rattle.extent_blocks.proofs.extent.BlockExtent.of.Goals as goal

pub returns : goal.returns
returns g c = λ p.
    blocks_of (λ x. x.number) (λ x. x.objects) c.in_ok-number_blocks.field-0.items p ∙ c.in_ok-number_blocks.ensures p
    ∙ ap (λ (Cs : List Set). in_column Cs p) c.deref.ensures.value ∙ c.in_ok-column.ensures.places p
    ∙ ap (λ (X : Context). contains_at X c.args.a.now p) c.rows.ensures
