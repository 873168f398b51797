use Rattle.std.proofs.Common.{◌∙◌, ◌++◌, ℕ, List, map, ap}
use Rattle.fca_model.specs.Sets.{Set}
use Rattle.fca_model.specs.Context.{Context}
use Rattle.concept_walk.specs.Gatherings.{concept_at}
use Rattle.table_texts.specs.Tops.{branches}
use Rattle.table_texts.proofs.packed.one_page.Goals as goal

pub returns : goal.returns
returns g c =
    let K : Context = c.args.crosses.now in
    c.in_ok-gather_tops.ensures
    ∙ ap (λ (cs : List (Set × List ℕ)). cs ++ map (concept_at K) (branches K c.args.tops.now)) c.new-gathering.ensures.concepts
    ∙ ap (map (concept_at K)) c.requires.whole
