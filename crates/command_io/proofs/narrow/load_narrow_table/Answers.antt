use Rattle.fca_io.specs.Faults.{Rose}
use Rattle.command_io.specs.Endings.{IsRefusal}
use Rattle.command_io.specs.Causes.{IsFileStop}
use Rattle.command_io.specs.Forms.{table_formed, table_read}
use Rattle.command_io.specs.Readings.{MayRefuse, SameCounts}
use Rattle.command_io.specs.declared.stop.Stop.{Stop}
use Rattle.command_io.proofs.ErrLemmas.{err-passed}
use Rattle.command_io.proofs.CauseLemmas.{fetch-refused, fetch-file}
use Rattle.command_io.proofs.QuietLemmas.{unless_fault, fault-passed}
use Rattle.command_io.proofs.narrow.load_narrow_table.Goals as goal

pub returns-in_err-bytes-clause-refused : goal.returns-in_err-bytes-clause-refused
returns-in_err-bytes-clause-refused g c =
    let told = g.H.Shelf.tells c.args.shelf.now c.args.file.now in
    let rose = Rose (g.H.Shelf.faults c.args.shelf.now c.args.file.now) (g.H.Shelf.faults c.fetch_file.new.shelf c.args.file.now) in
    let stop = c.in_err-bytes.field-0.0 in
    err-passed c.from_residual.result stop (λ (s : Stop). (IsRefusal s → MayRefuse (table_read c.args.file.now told)))
    c.from_residual.ensures.1
    (fetch-refused (table_formed c.args.file.now) told rose c.args.origin stop c.in_err-bytes.ensures.cause)

pub returns-in_err-bytes-clause-cause : goal.returns-in_err-bytes-clause-cause
returns-in_err-bytes-clause-cause g c =
    let told = g.H.Shelf.tells c.args.shelf.now c.args.file.now in
    let rose = Rose (g.H.Shelf.faults c.args.shelf.now c.args.file.now) (g.H.Shelf.faults c.fetch_file.new.shelf c.args.file.now) in
    let stop = c.in_err-bytes.field-0.0 in
    err-passed c.from_residual.result stop (IsFileStop c.args.file.now told rose c.args.origin) c.from_residual.ensures.1
    (fetch-file c.args.file.now told rose c.args.origin stop c.in_err-bytes.ensures.cause)

pub returns-in_err-bytes-clause-quiet : goal.returns-in_err-bytes-clause-quiet
returns-in_err-bytes-clause-quiet g c =
    fault-passed c.from_residual.result c.in_err-bytes.field-0.0
    (SameCounts (g.H.Shelf.faults c.args.shelf.now) (g.H.Shelf.faults c.fetch_file.new.shelf)) c.from_residual.ensures.1
    c.in_err-bytes.ensures.quiet

pub returns-clause-quiet : goal.returns-clause-quiet
returns-clause-quiet g c =
    unless_fault c.narrow_table.result (SameCounts (g.H.Shelf.faults c.args.shelf.now) (g.H.Shelf.faults c.fetch_file.new.shelf))
    c.in_ok-bytes.ensures.quiet
