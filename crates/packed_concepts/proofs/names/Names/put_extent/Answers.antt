use Rattle.std.proofs.Common.{◌≡◌, ◌<◌, ◌∙◌, ◌++◌, All, List, length, map, take, sym, ap, arith}
use Rattle.std.proofs.lemmas.List.{length-take-le, length-map}
use Rattle.std.specs.List.{concat}
use Rattle.fca_model.specs.Tables.{Text}
use Rattle.expert_wire.specs.Texts.{comma_list}
use Rattle.packed_concepts.specs.Lines.{TableNames, names_at}
use Rattle.packed_concepts.specs.Listing.{with_comma, without_comma}
use Rattle.packed_concepts.proofs.ListingLemmas.{names_at-with_comma, put_names}
use Rattle.packed_concepts.proofs.names.Names.put_extent.Goals as goal

pub put_places-end-requires : goal.put_places-end-requires
put_places-end-requires c =
    let objects : List Text = c.self.inside.objects in
    let n : length c.args.self.now.objects ≡ length objects = ap (λ (x : TableNames). length x.objects) (sym c.self.view_is)
    ∙ length-map objects without_comma in record {
      inside = λ k d l. let h = c.requires.inside k d l in omega (arith, h, n);
      room = c.requires.room;
    }

pub returns-clause-text : goal.returns-clause-text
returns-clause-text c =
    let objects : List Text = map without_comma c.self.inside.objects in
    let n : length c.args.self.now.objects ≡ length objects = ap (λ (x : TableNames). length x.objects) (sym c.self.view_is) in
    let inside : All (λ p. p < length objects) c.args.places.now = λ k d l. let h = c.requires.inside k d l in omega (arith, h, n) in
    let old : Text = take c.args.start c.args.text.now in
    let new : Text = c.put_places-end.new.text in
    let end = c.put_places-end.result in
    let names : List Text = names_at objects c.args.places.now in
    let written : take end new ≡ old ++ concat (map with_comma names) =
    c.put_places-end.ensures.text ∙ ap (λ (ns : List Text). old ++ concat (names_at ns c.args.places.now)) c.self.invariant.objects
    ∙ ap (λ (ns : List Text). old ++ concat ns) (names_at-with_comma objects c.args.places.now inside) in
    ap (λ n. take n new) c.end_without_comma.ensures
    ∙ put_names new old names c.args.start end written (length-take-le c.args.start c.args.text.now (omega (arith, c.requires.room)))
    (omega (arith, c.requires.room, c.put_places-end.ensures.ends, c.put_places-end.ensures.room))
    ∙ ap (λ (x : TableNames). old ++ comma_list (names_at x.objects c.args.places.now)) c.self.view_is
