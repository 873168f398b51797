use Rattle.std.proofs.Common.{◌≡◌, Option, true, false, refl, sym, subst}
use Rattle.std.specs.Prelude.{IfOk, IfErr, length}
use Rattle.std.proofs.lemmas.Result.{IfOk-weaker}
use Rattle.fca_model.specs.Tables.{Text}
use Rattle.command_io.specs.Readings.{MayRead, MayRefuse}
use Rattle.command_io.specs.Endings.{Output, IsRefusal}
use Rattle.command_io.specs.Streams.{moment}
use Rattle.fca_io.specs.Faults.{RoseAtMost}
use Rattle.fca_command.specs.Commands.{files_by, reads_input}
use Rattle.fca_run.specs.Outputs.{output_by}
use Rattle.fca_run.specs.Calls.{shelf_moment, unlinked, outside, IsStopBy, MayEndWith}
use Rattle.command_io.proofs.QuietLemmas.{unless_fault}
use Rattle.command_io.proofs.FetchLemmas.{fetched_one}
use Rattle.fca_run.proofs.CallLemmas.{any-ok, finished-ends, course-report_file, reads_input-report_file}
use Rattle.fca_run.proofs.call.plain_output.Goals as goal

pub returns-in-Some-clause-output : goal.returns-in-Some-clause-output
returns-in-Some-clause-output g c =
    let P : Option Text → Type 0 = λ found.
    IfOk c.report_output.result (λ output. MayRead
    (output_by found c.args.command.now (g.H.Shelf.tells c.args.shelf.now) (g.S.Source.left c.args.input.now)) output) in
    subst P c.in-Some.ensures c.report_output.ensures.output

pub returns-in-Some-clause-ending : goal.returns-in-Some-clause-ending
returns-in-Some-clause-ending g c =
    IfOk-weaker c.report_output.result _ _ (λ output finished. finished-ends c.args.command.now output.ending finished)
    c.report_output.ensures.finished

pub returns-in-Some-clause-course : goal.returns-in-Some-clause-course
returns-in-Some-clause-course g c =
    IfOk-weaker c.report_output.result _ _ (λ output finished. course-report_file c.args.command.now (g.H.Shelf.tells c.args.shelf.now)
    (g.S.Source.left c.args.input.now) _ output.text (sym c.in-Some.ensures)) c.report_output.ensures.finished

pub returns-in-Some-clause-cause : goal.returns-in-Some-clause-cause
returns-in-Some-clause-cause g c =
    let old = outside (shelf_moment g.H.Shelf.tells g.H.Shelf.faults g.H.Shelf.fetches c.args.shelf.now)
    (moment g.S.Source.left g.S.Source.faults c.args.input.now) unlinked in
    let new = outside (shelf_moment g.H.Shelf.tells g.H.Shelf.faults g.H.Shelf.fetches c.report_output.new.shelf)
    (moment g.S.Source.left g.S.Source.faults c.args.input.now) unlinked in
    let P : Option Text → Type 0 = λ found. IfErr c.report_output.result (IsStopBy found c.args.command.now old new) in
    subst P c.in-Some.ensures c.report_output.ensures.cause

pub returns-in-Some-clause-refused : goal.returns-in-Some-clause-refused
returns-in-Some-clause-refused g c =
    let P : Option Text → Type 0 = λ found.
    IfErr c.report_output.result (λ stop. (IsRefusal stop
    → MayRefuse (output_by found c.args.command.now (g.H.Shelf.tells c.args.shelf.now) (g.S.Source.left c.args.input.now)))) in
    subst P c.in-Some.ensures c.report_output.ensures.refused

pub returns-in-Some-clause-read_to_end : goal.returns-in-Some-clause-read_to_end
returns-in-Some-clause-read_to_end g c = λ reads.
    (let unread : reads_input c.args.command.now ≡ false = reads_input-report_file c.args.command.now _ (sym c.in-Some.ensures) in cc)

pub returns-in-None-clause-output : goal.returns-in-None-clause-output
returns-in-None-clause-output g c =
    let P : Option Text → Type 0 = λ found.
    IfOk c.other_output.result (λ output. MayRead
    (output_by found c.args.command.now (g.H.Shelf.tells c.args.shelf.now) (g.S.Source.left c.args.input.now)) output) in
    subst P c.in-None.ensures c.other_output.ensures.output

pub returns-in-None-clause-cause : goal.returns-in-None-clause-cause
returns-in-None-clause-cause g c =
    let old = outside (shelf_moment g.H.Shelf.tells g.H.Shelf.faults g.H.Shelf.fetches c.args.shelf.now)
    (moment g.S.Source.left g.S.Source.faults c.args.input.now) unlinked in
    let new = outside (shelf_moment g.H.Shelf.tells g.H.Shelf.faults g.H.Shelf.fetches c.other_output.new.shelf)
    (moment g.S.Source.left g.S.Source.faults c.other_output.new.input) unlinked in
    let P : Option Text → Type 0 = λ found. IfErr c.other_output.result (IsStopBy found c.args.command.now old new) in
    subst P c.in-None.ensures c.other_output.ensures.cause

pub returns-in-None-clause-refused : goal.returns-in-None-clause-refused
returns-in-None-clause-refused g c =
    let P : Option Text → Type 0 = λ found.
    IfErr c.other_output.result (λ stop. (IsRefusal stop
    → MayRefuse (output_by found c.args.command.now (g.H.Shelf.tells c.args.shelf.now) (g.S.Source.left c.args.input.now)))) in
    subst P c.in-None.ensures c.other_output.ensures.refused

pub returns-in-Some-clause-quiet_input : goal.returns-in-Some-clause-quiet_input
returns-in-Some-clause-quiet_input g c = unless_fault c.report_output.result
    (g.S.Source.faults c.args.input.now ≡ g.S.Source.faults c.args.input.now) refl

pub returns-in-Some-clause-few : goal.returns-in-Some-clause-few
returns-in-Some-clause-few g c =
    let Few : Option Text → Type 0 = λ found. RoseAtMost (g.H.Shelf.fetches c.args.shelf.now)
    (g.H.Shelf.fetches c.report_output.new.shelf) (length (files_by found c.args.command.now)) in
    subst Few c.in-Some.ensures
    (fetched_one (g.H.Shelf.fetches c.args.shelf.now) (g.H.Shelf.fetches c.report_output.new.shelf) c.report_output.ensures.counted)
