use Rattle.std.proofs.Common.{◌≡◌, ◌∙◌, List, ℕ, map, ap}
use Rattle.std.specs.List.{flat_map}
use Rattle.fca_model.specs.Sets.{Set}
use Rattle.fca_model.specs.Context.{Context}
use Rattle.fca_model.specs.Pseudo.{intents}
use Rattle.concept_walk.specs.Gatherings.{concept_at}
use Rattle.table_texts.specs.Tops.{branches, all_branches}
use Rattle.table_texts.proofs.PackedLemmas.{concepts-jobs}
use Rattle.table_texts.proofs.packed.many_pages.Goals as goal

pub returns : goal.returns
returns g c =
    let K : Context = c.args.crosses.now in
    let whole : all_branches K c.deref-4.result.now ≡ intents K =
    ap (all_branches K) c.deref-4.ensures.value ∙ c.in_ok-jobs.ensures.branches ∙ ap (branches K) c.deref-3.ensures.value
    ∙ c.in_ok-finer.ensures.branches ∙ ap (branches K) c.deref.ensures.value ∙ c.in_ok-more.ensures.branches ∙ c.requires.whole in
    ap (flat_map (λ (x : List (Set × List ℕ)). x)) c.in_ok-pages.ensures.concepts
    ∙ concepts-jobs K c.in_ok-gatherings.gatherings.items c.deref-4.result.now c.in_ok-gatherings.ensures.even c.in_ok-gatherings.ensures.gatherings
    c.in_ok-pages.ensures.whole ∙ ap (map (concept_at K)) whole
