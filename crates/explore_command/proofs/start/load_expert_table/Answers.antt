use Rattle.command_io.specs.Readings.{SameCounts}
use Rattle.command_io.proofs.QuietLemmas.{unless_fault, fault-passed}
use Rattle.explore_command.proofs.start.load_expert_table.Goals as goal

pub returns-in_err-expert_table-clause-quiet : goal.returns-in_err-expert_table-clause-quiet
returns-in_err-expert_table-clause-quiet g c =
    fault-passed c.from_residual.result c.in_err-expert_table.field-0.0
    (SameCounts (g.H.Shelf.faults c.args.shelf.now) (g.H.Shelf.faults c.load_table.new.shelf)) c.from_residual.ensures.1
    c.in_err-expert_table.ensures.quiet

pub returns-clause-quiet : goal.returns-clause-quiet
returns-clause-quiet g c =
    unless_fault c.check_attributes.result (SameCounts (g.H.Shelf.faults c.args.shelf.now) (g.H.Shelf.faults c.load_table.new.shelf))
    c.in_ok-expert_table.ensures.quiet
