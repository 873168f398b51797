use Rattle.std.proofs.Common.{◌∙◌, ℕ, List, length, sym, ap}
use Rattle.extent_places.specs.Few.{chosen}
use Rattle.extent_places.proofs.FewLemmas.{few-extent, few_placed}
use Rattle.extent_places.proofs.few.FewObjects.put_places.Goals as goal

pub put_chosen-requires : goal.put_chosen-requires
put_chosen-requires g c = few_placed c.args.rows.now c.args.a.now c.args.self.now c.args.objects.now c.requires
    ∙ ap (λ (ps : List ℕ). length ps) (sym c.deref.ensures.value)

pub returns : goal.returns
returns g c =
    c.in_ok-put_chosen.ensures ∙ ap (chosen c.args.objects.now) c.deref.ensures.value
    ∙ few-extent c.args.rows.now c.args.a.now c.args.self.now c.args.objects.now c.requires
