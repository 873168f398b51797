use Rattle.std.proofs.Common.{◌≡◌, ◌∙◌, ◌++◌, ◌∷◌, [], List, ℕ, map, sym, ap, arith}
use Rattle.std.proofs.lemmas.List.{append-nil}
use Rattle.std.specs.List.{flat_map}
use Rattle.fca_model.specs.Sets.{Set}
use Rattle.fca_model.specs.Context.{Context}
use Rattle.fca_model.specs.Pseudo.{intents}
use Rattle.concept_walk.specs.Gatherings.{concept_at}
use Rattle.table_texts.proofs.PackedLemmas.{intents-at}
use Rattle.table_texts.proofs.lattice.lattice_in.Goals as goal

pub covers_of-requires : goal.covers_of-requires
covers_of-requires g c =
    let K : Context = c.args.rows.now in
    let same = c.in_ok-crosses.ensures in
    let page : c.in_ok-page.page ≡ map (concept_at K) (intents K) = c.in_ok-page.ensures
    ∙ ap (λ (J : Context). map (concept_at J) (intents J)) same in (
      omega arith,
      (
        omega (arith, c.page.invariant.words),
        c.deref-2.ensures.value ∙ c.in_ok-intents.ensures ∙ ap (λ (cs : List (Set × List ℕ)). map (λ x. x.0) cs) page
            ∙ intents-at K (intents K),
      ),
    )

pub returns-clause-concepts : goal.returns-clause-concepts
returns-clause-concepts g c =
    let page : List (Set × List ℕ) = c.in_ok-page.page in
    ap (flat_map (λ (x : List (Set × List ℕ)). x))
    (c.in_ok-push.ensures.items ∙ ap (λ (xs : List (List (Set × List ℕ))). xs ++ page ∷ []) c.new-pages.ensures.items)
    ∙ append-nil page ∙ c.in_ok-page.ensures ∙ ap (λ (K : Context). map (concept_at K) (intents K)) c.in_ok-crosses.ensures
