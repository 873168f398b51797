use Rattle.std.proofs.Common.{◌≡◌, ◌++◌, Some, slice_get, subst}
use Rattle.fca_model.specs.Context.{Context}
use Rattle.csv_context.specs.Written.{object_records, records_text}
use Rattle.csv_context.proofs.WriteLemmas.{EachName-more, objects-more}
use Rattle.csv_context.proofs.write.write_objects.Goals as goal

pub loop-i-preserved : goal.loop-i-preserved
loop-i-preserved c =
    let loop = c.loop-i in
    let t = c.args.table.now in
    let name = c.object.result.now in
    let wrote = c.in_ok-write_object.ensures in
    let P : Context → Type 0 = λ K. slice_get K.rows loop.i ≡ Some c.get.result in
    let row = subst P c.rows-in-loop-i.ensures.rows c.get.ensures.row in
    record {
      written = objects-more t.objects t.context.rows loop.i name c.get.result loop.text.items c.write_object.new.text.items
          (c.args.text.now.items ++ records_text (object_records t.objects t.context.rows)) c.object.ensures row wrote.written
          loop.invariant.written;
      named = EachName-more t.objects loop.i name c.object.ensures wrote.named loop.invariant.named;
    }
