use Rattle.command_io.specs.Readings.{SameCounts}
use Rattle.command_io.proofs.QuietLemmas.{unless_fault, fault-passed}
use Rattle.fca_run.proofs.reports.table_output.Goals as goal

pub returns-in_err-table-clause-quiet : goal.returns-in_err-table-clause-quiet
returns-in_err-table-clause-quiet g c = fault-passed c.from_residual.result c.in_err-table.field-0.0
    (SameCounts (g.H.Shelf.faults c.args.shelf.now) (g.H.Shelf.faults c.load_table.new.shelf)) c.from_residual.ensures.1
    c.in_err-table.ensures.quiet

pub returns-clause-quiet : goal.returns-clause-quiet
returns-clause-quiet g c = unless_fault c.report_on.result
    (SameCounts (g.H.Shelf.faults c.args.shelf.now) (g.H.Shelf.faults c.load_table.new.shelf)) c.in_ok-table.ensures.quiet
