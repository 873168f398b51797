use Rattle.command_io.specs.Readings.{SameCounts}
use Rattle.command_io.proofs.QuietLemmas.{unless_fault, fault-passed}
use Rattle.command_io.proofs.known.load_known_file.Goals as goal

pub returns-in_err-list-clause-quiet : goal.returns-in_err-list-clause-quiet
returns-in_err-list-clause-quiet g c =
    fault-passed c.from_residual.result c.in_err-list.field-0.0
    (SameCounts (g.H.Shelf.faults c.args.shelf.now) (g.H.Shelf.faults c.load_implications.new.shelf)) c.from_residual.ensures.1
    c.in_err-list.ensures.quiet

pub returns-in_err-check_known-clause-quiet : goal.returns-in_err-check_known-clause-quiet
returns-in_err-check_known-clause-quiet g c =
    unless_fault c.from_residual-in_err-check_known.result
    (SameCounts (g.H.Shelf.faults c.args.shelf.now) (g.H.Shelf.faults c.load_implications.new.shelf)) c.in_ok-list.ensures.quiet
