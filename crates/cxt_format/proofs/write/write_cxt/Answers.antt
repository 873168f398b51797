use Rattle.std.proofs.Common.{◌∙◌, ◌++◌, ap, map}
use Rattle.fca_model.specs.Context.{Context}
use Rattle.text_pieces.specs.Lines.{text_of}
use Rattle.cxt_format.specs.Written.{head_lines}
use Rattle.text_pieces.specs.Marks.{marks_of}
use Rattle.cxt_format.proofs.ReadBack.{IsNamed, cxt_form-cxt_text}
use Rattle.cxt_format.proofs.TextLemmas.{written-lists}
use Rattle.cxt_format.proofs.write.write_cxt.Goals as goal

pub returns : goal.returns
returns c =
    let t = c.args.table.now in
    let rows = ap (λ (K : Context). c.write_attributes.new.text.items ++ text_of (map marks_of K.rows)) c.rows.ensures.rows in
    let written = written-lists c.write_head.new.text.items c.write_objects.new.text.items c.write_attributes.new.text.items
    c.write_rows.new.text.items
    (head_lines t) t.objects t.attributes (map marks_of t.context.rows)
    (c.in_ok-write_head.ensures.written ∙ ap (λ text. text ++ text_of (head_lines t)) c.new-text.ensures.items)
    c.in_ok-write_objects.ensures.written c.in_ok-write_attributes.ensures.written (c.in_ok-write_rows.ensures ∙ rows) in
    let named : IsNamed t = record {
      title = c.in_ok-write_head.ensures.named;
      objects = c.in_ok-write_objects.ensures.named;
      attributes = c.in_ok-write_attributes.ensures.named;
    } in
    record { written = written; reads_back = rw written (cxt_form-cxt_text t c.rows.ensures.table named) }
