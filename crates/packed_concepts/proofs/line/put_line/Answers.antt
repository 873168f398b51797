use Rattle.std.proofs.Common.{◌≡◌, ◌∙◌, ◌++◌, take, ap, arith}
use Rattle.std.specs.Prelude.{codes}
use Rattle.fca_model.specs.Tables.{Text}
use Rattle.expert_wire.specs.Texts.{comma_list, names_of}
use Rattle.packed_concepts.specs.Lines.{TableNames, names_at}
use Rattle.packed_concepts.proofs.LineLemmas.{line-parts}
use Rattle.packed_concepts.proofs.line.put_line.Goals as goal

pub put_extent-extent-requires : goal.put_extent-extent-requires
put_extent-extent-requires g c = record {
  inside = c.requires.named.inside;
  room = omega (
    arith,
    c.requires.room,
    c.put_bytes-number.ensures.ends,
    c.put_bytes-opened.ensures.ends,
    c.put_intent-intent.ensures.ends,
    c.put_bytes-between.ensures.ends,
    c.put_bytes-number.ensures.room,
    c.put_bytes-opened.ensures.room,
    c.put_intent-intent.ensures.room,
    c.put_bytes-between.ensures.room,
  );
}

pub returns : goal.returns
returns g c =
    let t : TableNames = c.args.names.now in
    let old : Text = take c.args.start c.args.text.now in
    let number : take c.put_bytes-opened.result c.put_bytes-opened.new.text ≡ (old ++ c.args.digits.now) ++ codes " {" =
    c.put_bytes-opened.ensures.text ∙ ap (λ (z : Text). z ++ codes " {") c.put_bytes-number.ensures.text in
    let attributes : Text = comma_list (names_of t.attributes c.args.a.now) in
    let intent : take c.put_bytes-between.result c.put_bytes-between.new.text
    ≡ (((old ++ c.args.digits.now) ++ codes " {") ++ attributes) ++ codes "} | {" =
    c.put_bytes-between.ensures.text
    ∙ ap (λ (z : Text). z ++ codes "} | {") (c.put_intent-intent.ensures.text ∙ ap (λ (z : Text). z ++ attributes) number) in
    record {
      text = c.put_bytes.ensures.text ∙ ap (λ (z : Text). z ++ codes "}\n")
          (c.put_extent-extent.ensures.text ∙ ap (λ (z : Text). z ++ comma_list (names_at t.objects c.args.places.now)) intent)
          ∙ line-parts t old c.args.digits.now c.args.a.now c.args.places.now;
      ends = omega (
        arith,
        c.requires.room,
        c.put_bytes-number.ensures.ends,
        c.put_bytes-opened.ensures.ends,
        c.put_intent-intent.ensures.ends,
        c.put_bytes-between.ensures.ends,
        c.put_extent-extent.ensures.ends,
        c.put_bytes.ensures.ends,
        c.put_bytes-number.ensures.room,
        c.put_bytes-opened.ensures.room,
        c.put_intent-intent.ensures.room,
        c.put_bytes-between.ensures.room,
        c.put_extent-extent.ensures.room,
        c.put_bytes.ensures.room,
      );
      room = c.put_bytes.ensures.room ∙ c.put_extent-extent.ensures.room ∙ c.put_bytes-between.ensures.room
          ∙ c.put_intent-intent.ensures.room ∙ c.put_bytes-opened.ensures.room ∙ c.put_bytes-number.ensures.room;
    }
