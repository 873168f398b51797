use Rattle.std.proofs.Common.{◌≡◌, ◌∙◌, List, ℕ, length, take, sym, ap, arith}
use Rattle.fca_model.specs.Sets.{Set}
use Rattle.packed_concepts.proofs.PackingLemmas.{length-unpacked}
use Rattle.packed_concepts.proofs.page.ConceptPage.len.Goals as goal

pub returns-clause-count : goal.returns-clause-count
returns-clause-count g c =
    let n = length-unpacked c.self.inside.packed.items (take c.self.inside.end c.self.inside.places.items) in
    let same : length c.args.self.now ≡ length c.self.inside.packed.items =
    ap (λ (cs : List (Set × List ℕ)). length cs) (sym c.self.view_is) ∙ n in
    omega (arith, same, c.len.ensures, c.self.inside.packed.ok.0)
