use Rattle.std.proofs.Common.{◌∙◌, List, ℕ, map, take, sym, ap}
use Rattle.fca_model.specs.Sets.{Set}
use Rattle.packed_concepts.specs.declared.page.IntentAndCount.{IntentAndCount}
use Rattle.packed_concepts.proofs.PackingLemmas.{intents-unpacked}
use Rattle.packed_concepts.proofs.page.ConceptPage.intents.Goals as goal

pub returns : goal.returns
returns g c =
    c.in_ok-intents.ensures ∙ ap (λ (ps : List (IntentAndCount g.row.W)). map (λ p. p.intent) ps) c.deref.ensures.value
    ∙ sym (intents-unpacked c.self.inside.packed.items (take c.self.inside.end c.self.inside.places.items))
    ∙ ap (λ (cs : List (Set × List ℕ)). map (λ x. x.0) cs) c.self.view_is
