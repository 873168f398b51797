use Rattle.std.proofs.Common.{◌∙◌, ◌++◌, ◌∷◌, [], ℕ, List, Vec, Global, length, map, ap, arith}
use Rattle.std.proofs.lemmas.List.{take_all, get_or_default}
use Rattle.fca_model.specs.Tables.{Text}
use Rattle.packed_concepts.specs.Listing.{with_comma}
use Rattle.packed_concepts.specs.Pieces.{piece_texts}
use Rattle.packed_concepts.proofs.ListingLemmas.{name_short}
use Rattle.packed_concepts.proofs.PieceLemmas.{names_none, names_more}
use Rattle.concept_walk.proofs.names.object_pieces.Goals as goal

pub loop-object-init : goal.loop-object-init
loop-object-init c = names_none c.args.objects.now c.in_ok-blocks.blocks.items
    (map (λ (v : Vec ℕ Global). v.items) c.in_ok-tails.tails.items) c.in_ok-blocks.ensures.items
    (ap (map (λ (v : Vec ℕ Global). v.items)) c.in_ok-tails.ensures.items)

pub add_name-requires-clause-short : goal.add_name-requires-clause-short
add_name-requires-clause-short c = omega (
  arith,
  name_short c.object-item.result c.bytes-name.ensures.name.faultless,
  ap length c.bytes-name.ensures.value,
)

pub add_name-requires-clause-pieces : goal.add_name-requires-clause-pieces
add_name-requires-clause-pieces c = c.loop-object.invariant.pieces

pub loop-object-preserved : goal.loop-object-preserved
loop-object-preserved c =
    let bytes : Vec (Vec ℕ Global) Global → List Text = λ ts. map (λ (v : Vec ℕ Global). v.items) ts.items in
    let old : List Text = piece_texts c.loop-object.blocks.items (bytes c.loop-object.tails) in
    names_more c.args.objects.now c.loop-object.object-index c.object-item.result c.loop-object.blocks.items c.add_name.new.blocks.items
    (bytes c.loop-object.tails) (bytes c.add_name.new.tails)
    c.loop-object-test.true (c.object-item.is ∙ get_or_default c.args.objects.now c.loop-object.object-index c.object-item.result
    [] c.loop-object-test.true)
    c.in_ok-add_name.ensures.pieces (c.in_ok-add_name.ensures.texts
    ∙ ap (λ n. old ++ with_comma n ∷ []) c.bytes-name.ensures.value) c.loop-object.invariant

pub new-requires : goal.new-requires
new-requires c = c.loop-object.invariant.pieces

pub returns : goal.returns
returns c = c.new.ensures ∙ c.loop-object.invariant.texts
    ∙ ap (map with_comma) (take_all c.loop-object.object-index c.args.objects.now c.loop-object-test.false)
