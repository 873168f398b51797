use Rattle.std.proofs.Common.{◌≡◌, inl, sym, subst}
use Rattle.std.specs.Prelude.{option_copied}
use Rattle.std.proofs.lemmas.Result.{IfOk-weaker, IfErr-weaker}
use Rattle.fca_io.specs.Faults.{Rose}
use Rattle.command_io.specs.Readings.{MayRefuse, Rises, SameCounts}
use Rattle.command_io.specs.Readings.Reading.{Read}
use Rattle.command_io.specs.Endings.{Output, IsRefusal, IsOfFile}
use Rattle.command_io.specs.Explorations.{exploration_of}
use Rattle.command_io.specs.declared.stop.Stop.{Stop}
use Rattle.command_io.specs.declared.stop.Stop.TheVariants.{Memory}
use Rattle.command_io.proofs.ErrLemmas.{err-passed}
use Rattle.command_io.proofs.ReadingLemmas.{refused_then, read_after}
use Rattle.command_io.proofs.QuietLemmas.{unless_fault, fault-passed}
use Rattle.replay_command.specs.Replayed.{replay_read, replay_output, exploration_output, IsReplayStop}
use Rattle.replay_command.proofs.ReplayLemmas.{MayReplay-made}
use Rattle.replay_command.proofs.replaying.replay.Goals as goal

pub returns-clause-output : goal.returns-clause-output
returns-clause-output g c =
    let reading = replay_read c.args.file.now (option_copied c.args.known_file) (g.H.Shelf.tells c.args.shelf.now)
    (g.S.Source.left c.args.input.now) in
    let made = exploration_of c.in_ok-explore.explore in
    IfOk-weaker c.exploration_output.result _ _ (λ (output : Output) is. read_after reading made
    (λ r. Read (exploration_output r)) output c.in_ok-explore.ensures.exploration is)
    c.exploration_output.ensures.text

pub returns-clause-replayed : goal.returns-clause-replayed
returns-clause-replayed g c =
    let reading = replay_read c.args.file.now (option_copied c.args.known_file) (g.H.Shelf.tells c.args.shelf.now)
    (g.S.Source.left c.args.input.now) in
    MayReplay-made reading (exploration_of c.in_ok-explore.explore) c.exploration_output.result c.in_ok-explore.ensures.exploration
    c.in_ok-explore.ensures.explored
    c.exploration_output.ensures.text c.exploration_output.ensures.spells

pub returns-in_err-explore-clause-refused : goal.returns-in_err-explore-clause-refused
returns-in_err-explore-clause-refused g c =
    let known = option_copied c.args.known_file in
    let files = g.H.Shelf.tells c.args.shelf.now in
    let input = g.S.Source.left c.args.input.now in
    err-passed c.from_residual.result c.in_err-explore.field-0.0
    (λ (s : Stop). (IsRefusal s → MayRefuse (replay_output c.args.file.now known files input))) c.from_residual.ensures.1
    (λ refusal. refused_then (replay_read c.args.file.now known files input) (λ r. Read (exploration_output r))
    (c.in_err-explore.ensures.refused refusal))

pub returns-clause-refused : goal.returns-clause-refused
returns-clause-refused g c = IfErr-weaker c.exploration_output.result _ _
    (λ s e. λ refusal. absurd (subst IsRefusal e refusal)) c.exploration_output.ensures.cause

pub returns-clause-cause : goal.returns-clause-cause
returns-clause-cause g c =
    let Stops : Stop → Type 0 = IsReplayStop c.args.file.now (option_copied c.args.known_file) (g.H.Shelf.tells c.args.shelf.now)
    (g.S.Source.left c.args.input.now)
    (Rises (g.H.Shelf.faults c.args.shelf.now) (g.H.Shelf.faults c.exploration.new.shelf))
    (Rose (g.S.Source.faults c.args.input.now) (g.S.Source.faults c.exploration.new.input)) in
    IfErr-weaker c.exploration_output.result (λ (s : Stop). s ≡ Memory) Stops
    (λ s e. subst Stops (sym e) (inl (inl tt))) c.exploration_output.ensures.cause

pub returns-clause-unread : goal.returns-clause-unread
returns-clause-unread g c = IfErr-weaker c.exploration_output.result (λ (s : Stop). s ≡ Memory) _
    (λ s e. λ file. absurd (subst IsOfFile e file)) c.exploration_output.ensures.cause

pub returns-in_err-explore-clause-quiet : goal.returns-in_err-explore-clause-quiet
returns-in_err-explore-clause-quiet g c =
    fault-passed c.from_residual.result c.in_err-explore.field-0.0
    (SameCounts (g.H.Shelf.faults c.args.shelf.now) (g.H.Shelf.faults c.exploration.new.shelf)) c.from_residual.ensures.1
    c.in_err-explore.ensures.quiet

pub returns-in_err-explore-clause-quiet_input : goal.returns-in_err-explore-clause-quiet_input
returns-in_err-explore-clause-quiet_input g c =
    fault-passed c.from_residual.result c.in_err-explore.field-0.0
    (g.S.Source.faults c.exploration.new.input ≡ g.S.Source.faults c.args.input.now) c.from_residual.ensures.1
    c.in_err-explore.ensures.quiet_input

pub returns-clause-quiet : goal.returns-clause-quiet
returns-clause-quiet g c =
    unless_fault c.exploration_output.result (SameCounts (g.H.Shelf.faults c.args.shelf.now) (g.H.Shelf.faults c.exploration.new.shelf))
    c.in_ok-explore.ensures.quiet

pub returns-clause-quiet_input : goal.returns-clause-quiet_input
returns-clause-quiet_input g c =
    unless_fault c.exploration_output.result (g.S.Source.faults c.exploration.new.input ≡ g.S.Source.faults c.args.input.now)
    c.in_ok-explore.ensures.quiet_input
