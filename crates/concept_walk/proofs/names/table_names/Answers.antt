use Rattle.std.proofs.Common.{◌≡◌, ◌∙◌, List, map, ap, ap₂}
use Rattle.fca_model.specs.Tables.{Text}
use Rattle.packed_concepts.specs.Lines.{TableNames}
use Rattle.packed_concepts.specs.Listing.{with_comma, without_comma}
use Rattle.packed_concepts.proofs.ListingLemmas.{without_comma-names, HaveCommas-names}
use Rattle.concept_walk.proofs.names.table_names.Goals as goal

pub new-requires : goal.new-requires
new-requires c = record {
  attributes = HaveCommas-names c.in_ok-attributes.attributes c.args.table.now.attributes c.in_ok-attributes.ensures;
  objects = HaveCommas-names c.in_ok-objects.objects c.args.objects.items
      (c.in_ok-objects.ensures ∙ ap (map with_comma) c.deref.ensures.value);
}

pub returns : goal.returns
returns c =
    let attributes : map without_comma c.in_ok-attributes.attributes ≡ c.args.table.now.attributes =
    ap (map without_comma) c.in_ok-attributes.ensures ∙ without_comma-names c.args.table.now.attributes in
    let objects : map without_comma c.in_ok-objects.objects ≡ c.args.objects.items =
    ap (map without_comma) (c.in_ok-objects.ensures ∙ ap (map with_comma) c.deref.ensures.value)
    ∙ without_comma-names c.args.objects.items in
    c.new.ensures ∙ ap₂ {C = TableNames} (λ (xs ys : List Text). record { attributes = xs; objects = ys }) attributes objects
