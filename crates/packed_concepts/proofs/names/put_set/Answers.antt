use Rattle.std.proofs.Common.{◌≡◌, ◌∙◌, ◌++◌, List, map, take, ap, arith}
use Rattle.std.proofs.lemmas.List.{length-take-le}
use Rattle.std.specs.List.{concat}
use Rattle.fca_model.specs.Tables.{Text}
use Rattle.expert_wire.specs.Texts.{names_of}
use Rattle.packed_concepts.specs.Listing.{with_comma}
use Rattle.packed_concepts.proofs.ListingLemmas.{names_of-map, put_names}
use Rattle.packed_concepts.proofs.names.put_set.Goals as goal

pub returns-clause-text : goal.returns-clause-text
returns-clause-text g c = λ attributes is.
    let old : Text = take c.args.start c.args.text.now in
    let new : Text = c.put_members-end.new.text in
    let end = c.put_members-end.result in
    let names : List Text = names_of attributes c.args.set.now in
    let written : take end new ≡ old ++ concat (map with_comma names) =
    c.put_members-end.ensures.text ∙ ap (λ (ns : List Text). old ++ concat (names_of ns c.args.set.now)) is
    ∙ ap (λ (ns : List Text). old ++ concat ns) (names_of-map with_comma attributes c.args.set.now) in
    ap (λ n. take n new) c.end_without_comma.ensures
    ∙ put_names new old names c.args.start end written (length-take-le c.args.start c.args.text.now (omega (arith, c.requires.room)))
    (omega (arith, c.requires.room, c.put_members-end.ensures.ends, c.put_members-end.ensures.room))
