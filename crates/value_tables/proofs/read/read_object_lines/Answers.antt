use Rattle.std.proofs.Common.{◌≡◌, ◌∙◌, ◌+◌, ℕ, List, Ok, length, sym, subst}
use Rattle.fca_model.specs.Tables.{Text}
use Rattle.csv_context.specs.Lines.{fields_in, records_in}
use Rattle.value_tables.specs.Cells.{PutsObject}
use Rattle.value_tables.specs.Form.{object_form, object_of}
use Rattle.value_tables.proofs.ReadLemmas.{ReadSoFar, ReadSoFar-more}
use Rattle.value_tables.proofs.read.read_object_lines.Goals as goal

pub loop-line-preserved : goal.loop-line-preserved
loop-line-preserved c =
    let loop = c.loop-line in
    let width = c.args.width in
    let new = c.read_line.new.cells in
    let took = c.in-Some.ensures in
    let fields = fields_in c.in-Some.line.now in
    let rest = records_in c.in-Some.behind.now in
    let all = records_in c.args.bytes.now in
    let name = c.in_ok-read_line.field-0 in
    let count : c.len-i.result ≡ length loop.names.items = c.len-i.ensures ∙ loop.names.ok.0 in
    let Q : ℕ → Type 0 = λ n. (object_form width (n + 2) fields ≡ Ok (object_of fields)) × PutsObject width (n + 2) fields loop.cells new in
    let put = subst Q count (c.in_ok-read_line.ensures.form, c.in_ok-read_line.ensures.puts) in
    let before : ReadSoFar width loop.names.items loop.cells (records_in loop.left.now) all =
    record { few = loop.invariant.few; cells = loop.invariant.cells; even = loop.invariant.even; says = loop.invariant.says } in
    let more = ReadSoFar-more width loop.names.items loop.cells new
    (records_in loop.left.now) rest all fields name took.first put.0 c.in_ok-read_line.ensures.name put.1 before in
    let R : List Text → Type 0 = λ names. ReadSoFar width names new rest all in
    let after = subst R (sym c.in_ok-push.ensures.items) more in
    record { unquoted = took.unquoted; few = after.few; cells = after.cells; even = after.even; says = after.says }
