use Rattle.std.proofs.Common.{◌∙◌, ap}
use Rattle.fca_model.specs.Sets.{Set, same}
use Rattle.fca_model.proofs.SetLemmas.{same-meet}
use Rattle.extent_places.proofs.objects.have_all.Goals as goal

pub returns : goal.returns
returns c = c.eq.ensures ∙ ap (λ (M : Set). same M c.args.objects.now) c.meet.ensures ∙ same-meet c.args.objects.now c.args.column.now
