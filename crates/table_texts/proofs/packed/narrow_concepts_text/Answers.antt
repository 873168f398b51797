use Rattle.std.proofs.Common.{◌≡◌, ◌∙◌, map, ap}
use Rattle.fca_model.specs.Tables.{NamedContext}
use Rattle.fca_model.specs.Context.{Context}
use Rattle.fca_model.specs.Pseudo.{intents}
use Rattle.packed_concepts.specs.Pages.{concepts_on}
use Rattle.concept_walk.specs.Gatherings.{concept_at}
use Rattle.table_texts.proofs.PackedLemmas.{named-whole, text-whole}
use Rattle.table_texts.proofs.packed.narrow_concepts_text.Goals as goal

pub new-requires : goal.new-requires
new-requires g c =
    let t : NamedContext = c.args.table in
    let pages : concepts_on c.in_ok-pages.pages ≡ map (concept_at t.context) (intents t.context) =
    c.in_ok-pages.ensures ∙ ap (λ (K : Context). map (concept_at K) (intents K)) c.in_ok-names.ensures.rows in
    named-whole t c.in_ok-names.names (concepts_on c.in_ok-pages.pages) c.in_ok-names.ensures.names pages
    c.in_ok-names.ensures.each_attribute c.in_ok-names.ensures.each_object

pub returns : goal.returns
returns g c =
    let t : NamedContext = c.args.table in
    let pages : concepts_on c.in_ok-pages.pages ≡ map (concept_at t.context) (intents t.context) =
    c.in_ok-pages.ensures ∙ ap (λ (K : Context). map (concept_at K) (intents K)) c.in_ok-names.ensures.rows in
    c.in_ok-text.ensures ∙ text-whole t c.in_ok-names.names (concepts_on c.in_ok-pages.pages) c.in_ok-names.ensures.names pages
