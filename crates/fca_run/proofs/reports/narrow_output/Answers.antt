use Rattle.command_io.specs.Forms.{table_read}
use Rattle.command_io.specs.Readings.{SameCounts}
use Rattle.command_io.proofs.QuietLemmas.{unless_fault, fault-passed}
use Rattle.fca_run.proofs.NarrowLemmas.{report_untitled}
use Rattle.fca_run.proofs.reports.narrow_output.Goals as goal

pub returns-clause-output : goal.returns-clause-output
returns-clause-output g c = report_untitled c.args.command.now (table_read c.args.file.now (g.H.Shelf.tells c.args.shelf.now c.args.file.now))
    c.in_ok-table.table c.in_ok-narrow_report.field-0 c.requires c.in_ok-table.ensures.table c.in_ok-narrow_report.ensures.output

pub returns-in_err-table-clause-quiet : goal.returns-in_err-table-clause-quiet
returns-in_err-table-clause-quiet g c = fault-passed c.from_residual.result c.in_err-table.field-0.0
    (SameCounts (g.H.Shelf.faults c.args.shelf.now) (g.H.Shelf.faults c.load_narrow_table.new.shelf)) c.from_residual.ensures.1
    c.in_err-table.ensures.quiet

pub returns-in_err-narrow_report-clause-quiet : goal.returns-in_err-narrow_report-clause-quiet
returns-in_err-narrow_report-clause-quiet g c =
    unless_fault c.from_residual-in_err-narrow_report.result
    (SameCounts (g.H.Shelf.faults c.args.shelf.now) (g.H.Shelf.faults c.load_narrow_table.new.shelf)) c.in_ok-table.ensures.quiet
