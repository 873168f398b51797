use Rattle.std.proofs.Common.{◌≡◌, ◌∙◌, ◌+◌, ℕ, Bool, List, Ok, length, sym, subst}
use Rattle.csv.specs.Records.{fields_of}
use Rattle.fca_model.specs.Tables.{Text}
use Rattle.csv_context.specs.Records.{Reads, records_left}
use Rattle.value_tables.specs.Cells.{PutsObject}
use Rattle.value_tables.specs.Form.{object_form, object_of}
use Rattle.value_tables.proofs.ReadLemmas.{ReadSoFar, ReadSoFar-more}
use Rattle.value_tables.proofs.read.read_objects.Goals as goal

pub loop-record-preserved : goal.loop-record-preserved
loop-record-preserved c =
    let loop = c.loop-record in
    let width = c.args.width in
    let new = c.read_object.new.cells in
    let fields = fields_of c.next_record.new.fields in
    let name = c.in_ok-read_object.field-0 in
    let P : Bool → Type 0 = λ found. Reads loop.reader c.next_record.new.reader found fields in
    let read = subst P c.if-branch.true c.in_ok-next_record.ensures.read in
    let count : c.len-i.result ≡ length loop.names.items = c.len-i.ensures ∙ loop.names.ok.0 in
    let Q : ℕ → Type 0 = λ n. (object_form width (n + 2) fields ≡ Ok (object_of fields)) × PutsObject width (n + 2) fields loop.cells new in
    let put = subst Q count (c.in_ok-read_object.ensures.form, c.in_ok-read_object.ensures.puts) in
    let before : ReadSoFar width loop.names.items loop.cells (records_left loop.reader) (records_left c.args.reader.now) =
    record { few = loop.invariant.few; cells = loop.invariant.cells; even = loop.invariant.even; says = loop.invariant.says } in
    let more = ReadSoFar-more width loop.names.items loop.cells new (records_left loop.reader) (records_left c.next_record.new.reader)
    (records_left c.args.reader.now) fields name
    read.2 put.0 c.in_ok-read_object.ensures.name put.1 before in
    let R : List Text → Type 0 = λ names. ReadSoFar width names new (records_left c.next_record.new.reader)
    (records_left c.args.reader.now) in
    let after = subst R (sym c.in_ok-push.ensures.items) more in
    record { opened = read.0; few = after.few; cells = after.cells; even = after.even; says = after.says }
