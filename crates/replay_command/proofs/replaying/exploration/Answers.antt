use Rattle.std.proofs.Common.{◌≡◌, refl}
use Rattle.std.specs.Prelude.{option_copied}
use Rattle.std.proofs.lemmas.Result.{IfErr-weaker}
use Rattle.command_io.specs.Known.{start_of}
use Rattle.replay_command.proofs.ReplayLemmas.{stop-of_input}
use Rattle.command_io.specs.Readings.{SameCounts}
use Rattle.command_io.proofs.QuietLemmas.{unless_fault, fault-passed}
use Rattle.replay_command.proofs.replaying.exploration.Goals as goal

pub returns-clause-unread : goal.returns-clause-unread
returns-clause-unread g c =
    IfErr-weaker c.explore_by_script.result _ _ (λ stop is. λ file.
    absurd (stop-of_input (option_copied c.args.known_file) (start_of c.in_ok-start.start).table
    (g.S.Source.left c.args.input.now) _ stop is file)) c.explore_by_script.ensures.cause

pub returns-in_err-start-clause-quiet : goal.returns-in_err-start-clause-quiet
returns-in_err-start-clause-quiet g c =
    fault-passed c.from_residual.result c.in_err-start.field-0.0
    (SameCounts (g.H.Shelf.faults c.args.shelf.now) (g.H.Shelf.faults c.load_start.new.shelf)) c.from_residual.ensures.1
    c.in_err-start.ensures.quiet

pub returns-in_err-start-clause-quiet_input : goal.returns-in_err-start-clause-quiet_input
returns-in_err-start-clause-quiet_input g c = unless_fault c.from_residual.result
    (g.S.Source.faults c.args.input.now ≡ g.S.Source.faults c.args.input.now) refl

pub returns-clause-quiet : goal.returns-clause-quiet
returns-clause-quiet g c =
    unless_fault c.explore_by_script.result (SameCounts (g.H.Shelf.faults c.args.shelf.now) (g.H.Shelf.faults c.load_start.new.shelf))
    c.in_ok-start.ensures.quiet
