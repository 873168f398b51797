use Rattle.std.proofs.Common.{◌∙◌, take, ap, arith}
use Rattle.std.proofs.lemmas.List.{length-take-le}
use Rattle.fca_model.specs.Tables.{Text}
use Rattle.expert_wire.specs.Texts.{names_of}
use Rattle.packed_concepts.proofs.ListingLemmas.{put_names}
use Rattle.table_texts.proofs.attribute_names.AttributeNames.put.Goals as goal

pub returns-then-lacking-width-clause-text : goal.returns-then-lacking-width-clause-text
returns-then-lacking-width-clause-text g c =
    let new : Text = c.put_nearly_all-end.new.text in
    ap (λ n. take n new) c.end_without_comma.ensures
    ∙ put_names new (take c.args.start c.args.text.now) (names_of c.args.self.now c.args.set.now) c.args.start c.put_nearly_all-end.result
    c.put_nearly_all-end.ensures.text (length-take-le c.args.start c.args.text.now (omega (arith, c.requires.room)))
    (omega (arith, c.requires.room, c.put_nearly_all-end.ensures.ends, c.put_nearly_all-end.ensures.room))
