use Rattle.std.proofs.Common.{◌≡◌, ◌∙◌, ◌++◌, List, length, take, ap, arith}
use Rattle.std.specs.Prelude.{codes}
use Rattle.fca_model.specs.Sets.{Set}
use Rattle.fca_model.specs.Tables.{Text}
use Rattle.expert_wire.specs.Texts.{comma_list, names_of}
use Rattle.attr_bits.proofs.DifferenceLemmas.{length-minus}
use Rattle.concept_walk.proofs.LineLemmas.{arrow-parts}
use Rattle.table_texts.proofs.basis_lines.put_implication.Goals as goal

pub put-conclusion-requires : goal.put-conclusion-requires
put-conclusion-requires g c =
    let wide : length c.minus-gained.result ≡ length c.args.member.now.conclusion = ap length c.minus-gained.ensures
    ∙ length-minus c.args.member.now.conclusion c.args.member.now.premise in (
      omega arith,
      (
        wide ∙ c.requires.conclusion,
        omega (
          arith,
          wide,
          c.requires.room,
          c.put_bytes-number.ensures.ends,
          c.put_bytes-opened.ensures.ends,
          c.put-premise.ensures.ends,
          c.put_bytes-between.ensures.ends,
          c.put_bytes-number.ensures.room,
          c.put_bytes-opened.ensures.room,
          c.put-premise.ensures.room,
          c.put_bytes-between.ensures.room,
        ),
      ),
    )

pub put_bytes-requires : goal.put_bytes-requires
put_bytes-requires g c =
    let wide : length c.minus-gained.result ≡ length c.args.member.now.conclusion = ap length c.minus-gained.ensures
    ∙ length-minus c.args.member.now.conclusion c.args.member.now.premise in
    omega (
      arith,
      wide,
      c.requires.room,
      c.put_bytes-number.ensures.ends,
      c.put_bytes-opened.ensures.ends,
      c.put-premise.ensures.ends,
      c.put_bytes-between.ensures.ends,
      c.put-conclusion.ensures.ends,
      c.put_bytes-number.ensures.room,
      c.put_bytes-opened.ensures.room,
      c.put-premise.ensures.room,
      c.put_bytes-between.ensures.room,
      c.put-conclusion.ensures.room,
    )

pub returns : goal.returns
returns g c =
    let names : List Text = c.args.names.now in
    let old : Text = take c.args.start c.args.text.now in
    let P : Set = c.args.member.now.premise in
    let G : Set = c.minus-gained.result in
    let wide : length G ≡ length c.args.member.now.conclusion = ap length c.minus-gained.ensures
    ∙ length-minus c.args.member.now.conclusion P in
    let number : take c.put_bytes-opened.result c.put_bytes-opened.new.text ≡ (old ++ c.args.digits.now) ++ codes " {" =
    c.put_bytes-opened.ensures.text ∙ ap (λ (z : Text). z ++ codes " {") c.put_bytes-number.ensures.text in
    let premise : take c.put_bytes-between.result c.put_bytes-between.new.text
    ≡ (((old ++ c.args.digits.now) ++ codes " {") ++ comma_list (names_of names P)) ++ codes "} -> {" =
    c.put_bytes-between.ensures.text
    ∙ ap (λ (z : Text). z ++ codes "} -> {") (c.put-premise.ensures.text ∙ ap (λ (z : Text). z ++ comma_list (names_of names P)) number) in
    record {
      text = c.put_bytes.ensures.text ∙ ap (λ (z : Text). z ++ codes "}\n")
          (c.put-conclusion.ensures.text ∙ ap (λ (z : Text). z ++ comma_list (names_of names G)) premise)
          ∙ arrow-parts names old c.args.digits.now c.args.member.now G c.minus-gained.ensures;
      ends = omega (
        arith,
        c.requires.room,
        wide,
        c.put_bytes-number.ensures.ends,
        c.put_bytes-opened.ensures.ends,
        c.put-premise.ensures.ends,
        c.put_bytes-between.ensures.ends,
        c.put-conclusion.ensures.ends,
        c.put_bytes.ensures.ends,
        c.put_bytes-number.ensures.room,
        c.put_bytes-opened.ensures.room,
        c.put-premise.ensures.room,
        c.put_bytes-between.ensures.room,
        c.put-conclusion.ensures.room,
        c.put_bytes.ensures.room,
      );
      room = c.put_bytes.ensures.room ∙ c.put-conclusion.ensures.room ∙ c.put_bytes-between.ensures.room
          ∙ c.put-premise.ensures.room ∙ c.put_bytes-opened.ensures.room ∙ c.put_bytes-number.ensures.room;
    }
