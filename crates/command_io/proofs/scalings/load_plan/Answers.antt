use Rattle.fca_io.specs.Faults.{Rose}
use Rattle.command_io.specs.Endings.{IsRefusal}
use Rattle.context_scaling.specs.PlanForm.{plan_form}
use Rattle.command_io.specs.Causes.{IsPlanStop}
use Rattle.command_io.specs.Forms.{plan_read}
use Rattle.command_io.specs.Readings.{formed, MayRefuse, SameCounts}
use Rattle.command_io.specs.declared.stop.Stop.{Stop}
use Rattle.command_io.proofs.ErrLemmas.{err-passed}
use Rattle.command_io.proofs.CauseLemmas.{fetch-refused, fetch-plan}
use Rattle.command_io.proofs.QuietLemmas.{unless_fault, fault-passed}
use Rattle.command_io.proofs.scalings.load_plan.Goals as goal

pub returns-in_err-bytes-clause-refused : goal.returns-in_err-bytes-clause-refused
returns-in_err-bytes-clause-refused g c =
    let told = g.H.Shelf.tells c.args.shelf.now c.args.file.now in
    let rose = Rose (g.H.Shelf.faults c.args.shelf.now c.args.file.now) (g.H.Shelf.faults c.fetch_file.new.shelf c.args.file.now) in
    let stop = c.in_err-bytes.field-0.0 in
    err-passed c.from_residual.result stop (λ (s : Stop). (IsRefusal s → MayRefuse (plan_read c.args.values.now told)))
    c.from_residual.ensures.1
    (fetch-refused (λ bytes. formed (plan_form c.args.values.now bytes)) told rose c.args.origin stop c.in_err-bytes.ensures.cause)

pub returns-in_err-bytes-clause-cause : goal.returns-in_err-bytes-clause-cause
returns-in_err-bytes-clause-cause g c =
    let told = g.H.Shelf.tells c.args.shelf.now c.args.file.now in
    let rose = Rose (g.H.Shelf.faults c.args.shelf.now c.args.file.now) (g.H.Shelf.faults c.fetch_file.new.shelf c.args.file.now) in
    let stop = c.in_err-bytes.field-0.0 in
    err-passed c.from_residual.result stop (IsPlanStop c.args.values.now told rose c.args.origin) c.from_residual.ensures.1
    (fetch-plan c.args.values.now told rose c.args.origin stop c.in_err-bytes.ensures.cause)

pub returns-in_err-bytes-clause-quiet : goal.returns-in_err-bytes-clause-quiet
returns-in_err-bytes-clause-quiet g c =
    fault-passed c.from_residual.result c.in_err-bytes.field-0.0
    (SameCounts (g.H.Shelf.faults c.args.shelf.now) (g.H.Shelf.faults c.fetch_file.new.shelf)) c.from_residual.ensures.1
    c.in_err-bytes.ensures.quiet

pub returns-clause-quiet : goal.returns-clause-quiet
returns-clause-quiet g c =
    unless_fault c.plan_of.result (SameCounts (g.H.Shelf.faults c.args.shelf.now) (g.H.Shelf.faults c.fetch_file.new.shelf))
    c.in_ok-bytes.ensures.quiet
