use Rattle.std.proofs.Common.{◌≤◌, List, ℕ, All, length, take, subst}
use Rattle.fca_model.specs.Sets.{Set}
use Rattle.packed_concepts.proofs.PackingLemmas.{most-unpacked}
use Rattle.packed_concepts.proofs.page.ConceptPage.most.Goals as goal

pub returns : goal.returns
returns g c = subst (λ (cs : List (Set × List ℕ)). All (λ x. length x.1 ≤ c.self.inside.most) cs) c.self.view_is
    (most-unpacked c.self.inside.packed.items (take c.self.inside.end c.self.inside.places.items) c.self.inside.most c.self.invariant.most)
