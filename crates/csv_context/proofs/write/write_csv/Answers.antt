use Rattle.std.proofs.Common.{◌≡◌, ◌∙◌, ◌++◌, List, ℕ, ap}
use Rattle.csv.specs.Writing.{default_writer, row_text}
use Rattle.csv_context.specs.Written.{csv_text, header_record, object_records, records_text}
use Rattle.csv_context.proofs.ReadBack.{csv_form-csv_text}
use Rattle.csv_context.proofs.write.write_csv.Goals as goal

pub returns : goal.returns
returns c =
    let t = c.args.table.now in
    let header = c.in_ok-write_header.ensures in
    let objects = c.in_ok-write_objects.ensures in
    let first = header.written ∙ ap (λ (text : List ℕ). text ++ row_text default_writer (header_record t)) c.new-text.ensures.items in
    let written : c.write_objects.new.text.items ≡ csv_text t = objects.written
    ∙ ap (λ (text : List ℕ). text ++ records_text (object_records t.objects t.context.rows)) first in
    record { written = written; reads_back = rw written (csv_form-csv_text t objects.table objects.named header.named) }
