use Rattle.std.proofs.Common.{◌≡◌, ◌++◌, codes, drop}
use Rattle.text_pieces.specs.Lists.{EachName}
use Rattle.csv.specs.Writing.{default_writer, fields_text}
use Rattle.csv_context.proofs.write.write_header.Given as goal

abbrev pub invariant-loop-i : goal.invariant-loop-i
invariant-loop-i l = record {
  written : l.text.items ++ fields_text default_writer (drop l.i l.table.attributes) ≡ (l.fn.text.items ++ codes "object")
      ++ fields_text default_writer l.table.attributes;
  named : EachName (drop l.i l.table.attributes) → EachName l.table.attributes;
}
