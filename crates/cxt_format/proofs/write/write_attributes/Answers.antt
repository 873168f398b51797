use Rattle.std.proofs.Common.{◌≤◌, ◌∙◌, ◌++◌, ℕ, length, sym, ap, subst}
use Rattle.fca_model.specs.Context.{Context}
use Rattle.text_pieces.specs.Lines.{text_of}
use Rattle.cxt_format.proofs.TextLemmas.{NamesWritten-more, NamesWritten-all}
use Rattle.cxt_format.proofs.write.write_attributes.Goals as goal

pub loop-i-preserved : goal.loop-i-preserved
loop-i-preserved c =
    NamesWritten-more c.args.table.now.attributes c.loop-i.i c.attribute_name.result.now c.bytes.result.now c.loop-i.text.items
    c.write_line.new.text.items
    (c.args.text.now.items ++ text_of c.args.table.now.attributes) c.attribute_name.ensures c.bytes.ensures.value c.bytes.ensures.name
    c.in_ok-write_line.ensures c.loop-i.invariant

pub returns : goal.returns
returns c =
    let P : ℕ → Type 0 = λ n. n ≤ c.loop-i.i in
    let done : length c.args.table.now.attributes ≤ c.loop-i.i =
    subst P (c.width-i-end.ensures.width ∙ ap (λ (K : Context). K.width) c.rows.ensures.rows
    ∙ sym c.rows.ensures.table.each_attribute) c.loop-i-test.false in
    let all = NamesWritten-all c.args.table.now.attributes c.loop-i.i c.loop-i.text.items
    (c.args.text.now.items ++ text_of c.args.table.now.attributes) done c.loop-i.invariant in
    record { written = all.0; named = all.1 }
