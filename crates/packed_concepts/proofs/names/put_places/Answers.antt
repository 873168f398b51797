use Rattle.std.proofs.Common.{[], get_or, take, ◌∙◌, arith}
use Rattle.std.proofs.lemmas.List.{get_or_default}
use Rattle.fca_model.specs.Tables.{Text}
use Rattle.packed_concepts.proofs.ListingLemmas.{places_more}
use Rattle.packed_concepts.proofs.names.put_places.Goals as goal

pub put-end-requires : goal.put-end-requires
put-end-requires c = omega (arith, c.requires.room, c.loop-place.invariant.ends, c.loop-place.invariant.room, c.loop-place-test.true)

pub loop-place-preserved : goal.loop-place-preserved
loop-place-preserved c =
    let p = get_or c.args.places.now c.loop-place.place-index 0 in
    let piece : Text = get_or c.args.pieces.now p [] in
    record {
      begins = omega (arith, c.put-end.ensures.begins, c.loop-place.invariant.begins);
      ends = omega (arith, c.put-end.ensures.ends, c.loop-place.invariant.ends);
      room = c.put-end.ensures.room ∙ c.loop-place.invariant.room;
      written = places_more c.args.pieces.now c.args.places.now c.loop-place.place-index piece (take c.loop-place.end c.loop-place.text)
          (take c.put-end.result c.put-end.new.text) _
          c.loop-place-test.true (c.requires.inside c.loop-place.place-index 0 c.loop-place-test.true)
          (get_or_default c.args.pieces.now p [] piece (c.requires.inside c.loop-place.place-index 0 c.loop-place-test.true))
          c.put-end.ensures.text c.loop-place.invariant.written;
    }
