use Rattle.std.proofs.Common.{◌≡◌, ◌∙◌, ◌++◌, ℕ, List, length, map, ap, ap₂}
use Rattle.std.proofs.lemmas.Result.{IfOk-weaker}
use Rattle.std.specs.Prelude.{codes}
use Rattle.std.specs.List.{flat_map}
use Rattle.fca_model.specs.Tables.{Text, NamedContext}
use Rattle.fca_model.specs.Context.{Context}
use Rattle.fca_model.specs.Pseudo.{covers, intents}
use Rattle.lectic_concepts.specs.Concepts.{concepts}
use Rattle.report_texts.specs.Reports.{count_line, cover_line, concepts_text, lattice_text}
use Rattle.packed_concepts.specs.Lines.{lines_text}
use Rattle.packed_concepts.specs.Pages.{concepts_on}
use Rattle.concept_walk.specs.Gatherings.{concept_at}
use Rattle.table_texts.proofs.PackedLemmas.{named-whole, text-whole}
use Rattle.table_texts.proofs.lattice.narrow_lattice_text.Goals as goal

pub lines_with_covers-requires : goal.lines_with_covers-requires
lines_with_covers-requires c =
    let t : NamedContext = c.args.table in
    let pages : concepts_on c.in_ok-lattice.lattice.pages ≡ map (concept_at t.context) (intents t.context) =
    c.in_ok-lattice.ensures.pages ∙ ap (λ (K : Context). map (concept_at K) (intents K)) c.in_ok-names.ensures.rows in
    named-whole t c.in_ok-names.names (concepts_on c.in_ok-lattice.lattice.pages) c.in_ok-names.ensures.names pages
    c.in_ok-names.ensures.each_attribute c.in_ok-names.ensures.each_object

pub returns : goal.returns
returns c =
    let t : NamedContext = c.args.table in
    let lattice = c.in_ok-lattice.lattice in
    let pages : concepts_on lattice.pages ≡ map (concept_at t.context) (intents t.context) =
    c.in_ok-lattice.ensures.pages ∙ ap (λ (K : Context). map (concept_at K) (intents K)) c.in_ok-names.ensures.rows in
    let text : lines_text c.in_ok-names.names (concepts_on lattice.pages) ≡ concepts_text t (concepts t.context) =
    text-whole t c.in_ok-names.names (concepts_on lattice.pages) c.in_ok-names.ensures.names pages in
    let found : lattice.covers.items ≡ covers t.context = c.in_ok-lattice.ensures.pairs ∙ ap covers c.in_ok-names.ensures.rows in
    IfOk-weaker c.lines_with_covers.result
    (λ v. v.items ≡ lines_text c.in_ok-names.names (concepts_on lattice.pages)
    ++ (count_line (codes "covers ") (length lattice.covers.items) ++ flat_map cover_line lattice.covers.items))
    (λ v. v.items ≡ lattice_text t (concepts t.context) (covers t.context))
    (λ v e. e ∙ ap₂ (λ (x : Text) (ps : List (ℕ × ℕ)). x ++ (count_line (codes "covers ") (length ps) ++ flat_map cover_line ps)) text found)
    c.lines_with_covers.ensures
