use Rattle.std.proofs.Common.{◌≡◌, ◌++◌, drop}
use Rattle.text_pieces.specs.Lists.{EachName}
use Rattle.csv_context.specs.Written.{object_records, records_text}
use Rattle.csv_context.proofs.write.write_objects.Given as goal

abbrev pub invariant-loop-i : goal.invariant-loop-i
invariant-loop-i l =
    let t = l.table in
    record {
      written : l.text.items ++ records_text (object_records (drop l.i t.objects) (drop l.i t.context.rows)) ≡ l.fn.text.items ++ records_text
          (object_records t.objects t.context.rows);
      named : EachName (drop l.i t.objects) → EachName t.objects;
    }
