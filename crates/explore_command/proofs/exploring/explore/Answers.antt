use Rattle.std.specs.Prelude.{option_copied}
use Rattle.std.proofs.lemmas.Result.{IfOk-weaker}
use Rattle.explore_command.specs.Starts.{explore_read}
use Rattle.command_io.specs.Readings.{SameCounts}
use Rattle.command_io.proofs.QuietLemmas.{unless_fault, fault-passed}
use Rattle.explore_command.proofs.ExploredLemmas.{MayExplore-read}
use Rattle.explore_command.proofs.exploring.explore.Goals as goal

pub returns-clause-output : goal.returns-clause-output
returns-clause-output g c =
    MayExplore-read (explore_read c.args.file.now (option_copied c.args.known_file) c.args.wants_names c.args.files.now
    (g.H.Shelf.tells c.args.shelf.now))
    c.in_ok-start.start _ c.in_ok-start.ensures.start c.in_ok-explore_output.ensures

pub returns-in_err-start-clause-quiet : goal.returns-in_err-start-clause-quiet
returns-in_err-start-clause-quiet g c =
    fault-passed c.from_residual.result c.in_err-start.field-0.0
    (SameCounts (g.H.Shelf.faults c.args.shelf.now) (g.H.Shelf.faults c.load_explore_start.new.shelf)) c.from_residual.ensures.1
    c.in_err-start.ensures.quiet

pub returns-in_err-explore_output-clause-quiet : goal.returns-in_err-explore_output-clause-quiet
returns-in_err-explore_output-clause-quiet g c =
    unless_fault c.from_residual-in_err-explore_output.result
    (SameCounts (g.H.Shelf.faults c.args.shelf.now) (g.H.Shelf.faults c.load_explore_start.new.shelf)) c.in_ok-start.ensures.quiet
