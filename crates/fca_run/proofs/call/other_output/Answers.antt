use Rattle.std.proofs.Common.{◌≡◌, Option, refl, sym, subst}
use Rattle.std.specs.Prelude.{IfOk, length, option_copied}
use Rattle.std.proofs.lemmas.Result.{IfOk-weaker}
use Rattle.fca_model.specs.Tables.{Text}
use Rattle.fca_io.specs.Faults.{RoseAtMost}
use Rattle.fca_command.specs.Commands.{files_of}
use Rattle.fca_command.specs.declared.command.Command.{Command}
use Rattle.fca_command.specs.declared.command.Command.TheVariants.{Replay}
use Rattle.command_io.specs.Endings.{Output}
use Rattle.replay_command.specs.Replayed.{replay_read, MayReplay}
use Rattle.fca_run.specs.Calls.{MayEndWith}
use Rattle.fca_run.specs.Courses.{HasCourse}
use Rattle.command_io.specs.Readings.{SameCounts}
use Rattle.command_io.proofs.QuietLemmas.{unless_fault}
use Rattle.command_io.proofs.FetchLemmas.{fetched_none}
use Rattle.fca_run.proofs.CourseLemmas.{replay-tells}
use Rattle.fca_run.proofs.CallLemmas.{finished-ends, replay-ends}
use Rattle.fca_run.proofs.call.other_output.Goals as goal

pub returns-in-Scale-clause-ending : goal.returns-in-Scale-clause-ending
returns-in-Scale-clause-ending g c =
    IfOk-weaker c.scale_output.result _ _ (λ output finished. finished-ends c.args.command.now output.ending finished)
    c.scale_output.ensures.finished

pub returns-in-Replay-clause-ending : goal.returns-in-Replay-clause-ending
returns-in-Replay-clause-ending g c =
    let reading = replay_read c.in-Replay.file (option_copied c.as_ref.result) (g.H.Shelf.tells c.args.shelf.now)
    (g.S.Source.left c.args.input.now) in
    let Ends : Command → Type 0 = λ command. IfOk c.replay.result (λ (output : Output). MayEndWith command output.ending) in
    subst Ends (sym c.in-Replay.is)
    (IfOk-weaker c.replay.result (MayReplay reading)
    (λ (output : Output). MayEndWith (Replay c.in-Replay.file c.in-Replay.known) output.ending)
    (λ output replay. replay-ends c.in-Replay.file c.in-Replay.known reading output replay) c.replay.ensures.replayed)

pub returns-in-Replay-clause-course : goal.returns-in-Replay-clause-course
returns-in-Replay-clause-course g c =
    let files = g.H.Shelf.tells c.args.shelf.now in
    let input = g.S.Source.left c.args.input.now in
    let known = option_copied c.as_ref.result in
    let Tells : Command → Type 0 = λ command. IfOk c.replay.result (λ (output : Output). HasCourse command files input output.text) in
    let Beside : Option Text → Type 0 = λ known. Tells (Replay c.in-Replay.file known) in
    subst Tells (sym c.in-Replay.is) (subst Beside c.as_ref.ensures.value
    (IfOk-weaker c.replay.result (MayReplay (replay_read c.in-Replay.file known files input))
    (λ (output : Output). HasCourse (Replay c.in-Replay.file known) files input output.text)
    (λ output replay. replay-tells (replay_read c.in-Replay.file known files input) output replay) c.replay.ensures.replayed))

pub returns-in-Scale-clause-quiet_input : goal.returns-in-Scale-clause-quiet_input
returns-in-Scale-clause-quiet_input g c = unless_fault c.scale_output.result
    (g.S.Source.faults c.args.input.now ≡ g.S.Source.faults c.args.input.now) refl

pub returns-in_err-make_output-in-Make-clause-quiet : goal.returns-in_err-make_output-in-Make-clause-quiet
returns-in_err-make_output-in-Make-clause-quiet g c =
    unless_fault c.from_residual.result (SameCounts (g.H.Shelf.faults c.args.shelf.now) (g.H.Shelf.faults c.args.shelf.now)) (λ _. refl)

pub returns-in_err-make_output-in-Make-clause-quiet_input : goal.returns-in_err-make_output-in-Make-clause-quiet_input
returns-in_err-make_output-in-Make-clause-quiet_input g c =
    unless_fault c.from_residual.result (g.S.Source.faults c.args.input.now ≡ g.S.Source.faults c.args.input.now) refl

-- ---- counts of fetches

pub returns-in-Scale-clause-few : goal.returns-in-Scale-clause-few
returns-in-Scale-clause-few g c =
    let Few : Command → Type 0 = λ command. RoseAtMost (g.H.Shelf.fetches c.args.shelf.now) (g.H.Shelf.fetches c.scale_output.new.shelf)
    (length (files_of command)) in
    subst Few (sym c.in-Scale.is) c.scale_output.ensures.few

pub returns-in-Replay-clause-few : goal.returns-in-Replay-clause-few
returns-in-Replay-clause-few g c =
    let Few : Command → Type 0 = λ command. RoseAtMost (g.H.Shelf.fetches c.args.shelf.now) (g.H.Shelf.fetches c.replay.new.shelf)
    (length (files_of command)) in
    let Beside : Option Text → Type 0 = λ known. Few (Replay c.in-Replay.file known) in
    subst Few (sym c.in-Replay.is) (subst Beside c.as_ref.ensures.value c.replay.ensures.few)

pub returns-in_err-make_output-in-Make-clause-few : goal.returns-in_err-make_output-in-Make-clause-few
returns-in_err-make_output-in-Make-clause-few g c =
    fetched_none (g.H.Shelf.fetches c.args.shelf.now) (length (files_of c.args.command.now))

pub returns-in_ok-make_output-in-Make-clause-few : goal.returns-in_ok-make_output-in-Make-clause-few
returns-in_ok-make_output-in-Make-clause-few g c =
    fetched_none (g.H.Shelf.fetches c.args.shelf.now) (length (files_of c.args.command.now))
