use Rattle.std.proofs.Common.{◌≡◌, ◌∙◌, List, map, sym, ap, subst}
use Rattle.fca_model.specs.Tables.{Text}
use Rattle.packed_concepts.specs.Listing.{without_comma}
use Rattle.packed_concepts.proofs.ListingLemmas.{without_comma-names, HaveCommas-names}
use Rattle.table_texts.specs.Joined.{AreJoined}
use Rattle.table_texts.proofs.attribute_names.AttributeNames.of.Goals as goal

pub invariant_of-result : goal.invariant_of-result
invariant_of-result c =
    let names : List Text = c.args.table.now.attributes in
    let same : map without_comma c.in_ok-pieces.pieces ≡ names = ap (map without_comma) c.in_ok-pieces.ensures ∙ without_comma-names names in
    record {
      commas = HaveCommas-names c.in_ok-pieces.pieces names c.in_ok-pieces.ensures;
      joined = subst (λ (ns : List Text). AreJoined ns c.in_ok-text.text.items c.in_ok-text.starts.items) (sym same) c.in_ok-text.ensures;
    }

pub returns : goal.returns
returns c = ap (map without_comma) c.in_ok-pieces.ensures ∙ without_comma-names c.args.table.now.attributes
