use Rattle.csv_context.proofs.WriteLemmas.{object-done}
use Rattle.csv_context.proofs.write.write_object.Goals as goal

pub returns-clause-written : goal.returns-clause-written
returns-clause-written c =
    object-done c.args.name.now c.bytes.result.now c.args.row.now c.args.text.now.items c.write_field.new.text.items
    c.write_cells.new.text.items c.push.new.self.items
    c.bytes.ensures.name c.bytes.ensures.value c.in_ok-write_field.ensures c.in_ok-write_cells.ensures c.in_ok-push.ensures.items
