use Rattle.std.proofs.Common.{◌∙◌, ◌∷◌, ◌++◌, [], ℕ, List, map, ap}
use Rattle.std.proofs.lemmas.List.{append-nil}
use Rattle.std.specs.List.{flat_map}
use Rattle.fca_model.specs.Sets.{Set}
use Rattle.fca_model.specs.Context.{Context}
use Rattle.fca_model.specs.Pseudo.{intents}
use Rattle.concept_walk.specs.Gatherings.{concept_at}
use Rattle.table_texts.proofs.packed.pages_of.Goals as goal

pub returns-then-pays : goal.returns-then-pays
returns-then-pays g c = c.in_ok-pages.ensures ∙ ap (λ (K : Context). map (concept_at K) (intents K)) c.in_ok-crosses.ensures

pub returns : goal.returns
returns g c =
    let page : List (Set × List ℕ) = c.in_ok-page.page in
    ap (flat_map (λ (x : List (Set × List ℕ)). x))
    (c.in_ok-push.ensures.items ∙ ap (λ (xs : List (List (Set × List ℕ))). xs ++ page ∷ []) c.new-pages.ensures.items)
    ∙ append-nil page ∙ c.in_ok-page.ensures ∙ ap (λ (K : Context). map (concept_at K) (intents K)) c.in_ok-crosses.ensures
