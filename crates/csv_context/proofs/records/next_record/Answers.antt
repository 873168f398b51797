use Rattle.csv.specs.Records.{fields_of}
use Rattle.csv_context.proofs.RecordLemmas.{Reads-told, records_left-failed}
use Rattle.csv_context.proofs.records.next_record.Goals as goal

pub returns-clause-read : goal.returns-clause-read
returns-clause-read c =
    let read = c.read_byte_record in
    Reads-told _ c.args.reader.now read.new.self (fields_of read.new.row) read.result c.map_err.result c.requires read.ensures.ready
    read.ensures.reads c.map_err.ensures.cases c.map_err.ensures.variant

pub returns-clause-failed : goal.returns-clause-failed
returns-clause-failed c flexible =
    let read = c.read_byte_record in
    records_left-failed c.args.reader.now read.new.self read.result c.map_err.result c.requires flexible read.ensures.fails read.ensures.why
    c.map_err.ensures.variant
