use Rattle.std.proofs.Common.{◌≡◌, ◌∙◌, ◌++◌, ◌∷◌, [], ℕ, List, Vec, Global, length, map, ap, sym, arith}
use Rattle.std.proofs.lemmas.List.{take_all}
use Rattle.std.proofs.lemmas.Option.{get_or_from_slice_get}
use Rattle.fca_model.specs.Context.{Context}
use Rattle.fca_model.specs.Tables.{Text}
use Rattle.packed_concepts.specs.Listing.{with_comma}
use Rattle.packed_concepts.specs.Pieces.{piece_texts}
use Rattle.packed_concepts.proofs.ListingLemmas.{name_short}
use Rattle.packed_concepts.proofs.PieceLemmas.{names_none, names_more}
use Rattle.concept_walk.proofs.names.attribute_pieces.Goals as goal

pub loop-attribute-init : goal.loop-attribute-init
loop-attribute-init c = names_none c.args.table.now.attributes c.in_ok-blocks.blocks.items
    (map (λ (v : Vec ℕ Global). v.items) c.in_ok-tails.tails.items) c.in_ok-blocks.ensures.items
    (ap (map (λ (v : Vec ℕ Global). v.items)) c.in_ok-tails.ensures.items)

pub add_name-requires-clause-short : goal.add_name-requires-clause-short
add_name-requires-clause-short c = omega (
  arith,
  name_short c.attribute_name.result.now c.bytes-name.ensures.name.faultless,
  ap length c.bytes-name.ensures.value,
)

pub add_name-requires-clause-pieces : goal.add_name-requires-clause-pieces
add_name-requires-clause-pieces c = c.loop-attribute.invariant.pieces

pub loop-attribute-preserved : goal.loop-attribute-preserved
loop-attribute-preserved c =
    let count : c.width-width.result ≡ length c.args.table.now.attributes = c.width-width.ensures.width
    ∙ ap (λ (K : Context). K.width) c.rows.ensures.rows ∙ sym c.rows.ensures.table.each_attribute in
    let bytes : Vec (Vec ℕ Global) Global → List Text = λ ts. map (λ (v : Vec ℕ Global). v.items) ts.items in
    let old : List Text = piece_texts c.loop-attribute.blocks.items (bytes c.loop-attribute.tails) in
    names_more c.args.table.now.attributes c.loop-attribute.attribute c.attribute_name.result.now c.loop-attribute.blocks.items
    c.add_name.new.blocks.items (bytes c.loop-attribute.tails) (bytes c.add_name.new.tails)
    (omega (arith, count, c.loop-attribute-test.true))
    (sym (get_or_from_slice_get c.args.table.now.attributes c.loop-attribute.attribute c.attribute_name.result.now []
    (sym c.attribute_name.ensures))) c.in_ok-add_name.ensures.pieces
    (c.in_ok-add_name.ensures.texts ∙ ap (λ n. old ++ with_comma n ∷ []) c.bytes-name.ensures.value) c.loop-attribute.invariant

pub new-requires : goal.new-requires
new-requires c = c.loop-attribute.invariant.pieces

pub returns : goal.returns
returns c =
    let count : c.width-width.result ≡ length c.args.table.now.attributes = c.width-width.ensures.width
    ∙ ap (λ (K : Context). K.width) c.rows.ensures.rows ∙ sym c.rows.ensures.table.each_attribute in
    c.new.ensures ∙ c.loop-attribute.invariant.texts
    ∙ ap (map with_comma) (take_all c.loop-attribute.attribute c.args.table.now.attributes
    (omega (arith, count, c.loop-attribute-test.false)))
