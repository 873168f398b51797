use Rattle.std.proofs.Common.{◌≡◌, ◌≤◌, ◌++◌, codes, length, ap, subst, arith}
use Rattle.csv.specs.Writing.{default_writer, fields_text}
use Rattle.fca_model.specs.Context.{Context}
use Rattle.csv_context.proofs.WriteLemmas.{EachName-more, header-done, header-more}
use Rattle.csv_context.proofs.write.write_header.Goals as goal

pub loop-i-init : goal.loop-i-init
loop-i-init c = record {
  written = ap (λ text. text ++ fields_text default_writer c.args.table.now.attributes)
      c.in_ok-extend_from_slice.ensures.items;
  named = λ named. named;
}

pub loop-i-preserved : goal.loop-i-preserved
loop-i-preserved c =
    let loop = c.loop-i in
    let name = c.attribute_name.result.now in
    let names = c.args.table.now.attributes in
    record {
      written = header-more names loop.i name c.bytes.result.now loop.text.items c.push.new.self.items c.write_field.new.text.items
          ((c.args.text.now.items ++ codes "object") ++ fields_text default_writer names)
          c.attribute_name.ensures c.bytes.ensures.value c.in_ok-push.ensures.items c.in_ok-write_field.ensures loop.invariant.written;
      named = EachName-more names loop.i name c.attribute_name.ensures c.bytes.ensures.name loop.invariant.named;
    }

pub returns-clause-written : goal.returns-clause-written
returns-clause-written c =
    let names = c.args.table.now.attributes in
    let P : Context → Type 0 = λ K. c.width-i-end.result ≡ K.width in
    let width = subst P c.rows.ensures.rows c.width-i-end.ensures.width in
    let done : length names ≤ c.loop-i.i = omega (arith, width, c.rows.ensures.table.each_attribute, c.loop-i-test.false) in
    header-done names c.loop-i.i c.args.text.now.items c.loop-i.text.items c.push-2.new.self.items done c.loop-i.invariant.written
    c.in_ok-push-2.ensures.items
