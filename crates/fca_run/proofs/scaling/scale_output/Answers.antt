use Rattle.std.proofs.Common.{◌∙◌, sym, ap, subst, arith}
use Rattle.command_io.specs.Readings.{MayRefuse, Rises, SameCounts}
use Rattle.command_io.specs.declared.stop.Stop.{Stop}
use Rattle.command_io.proofs.ErrLemmas.{err-passed}
use Rattle.command_io.proofs.QuietLemmas.{unless_fault, fault-later, fault-passed, SameCounts-then}
use Rattle.command_io.proofs.FetchLemmas.{fetched_one, fetched_within, fetched_next}
use Rattle.command_io.specs.Readings.{MayRead}
use Rattle.command_io.specs.Endings.{Output, finished, IsRefusal}
use Rattle.fca_run.specs.Causes.{IsScaleStop}
use Rattle.fca_run.specs.Outputs.{scale_output}
use Rattle.fca_run.proofs.ScalingLemmas.{scale-read, scale-refused, scale-stop}
use Rattle.fca_run.proofs.scaling.scale_output.Goals as goal

pub returns-clause-output : goal.returns-clause-output
returns-clause-output g c =
    let tells = g.H.Shelf.tells c.args.shelf.now in
    let Reads : Output → Type 0 = λ o. MayRead (scale_output c.args.values.now c.args.plan.now tells) o in
    subst Reads (sym (c.of_text.ensures ∙ ap finished c.in_ok-scaling_text.ensures))
    (scale-read c.args.values.now c.args.plan.now tells (g.H.Shelf.tells c.load_values.new.shelf) c.in_ok-values.values c.in_ok-plan.plan
    c.in_ok-values.ensures.values c.in_ok-values.ensures.kept c.in_ok-plan.ensures.plan)

pub returns-in_err-plan-clause-refused : goal.returns-in_err-plan-clause-refused
returns-in_err-plan-clause-refused g c =
    let tells = g.H.Shelf.tells c.args.shelf.now in
    err-passed c.from_residual-in_err-plan.result c.in_err-plan.field-0.0
    (λ (s : Stop). (IsRefusal s → MayRefuse (scale_output c.args.values.now c.args.plan.now tells)))
    c.from_residual-in_err-plan.ensures.1
    (λ refusal. scale-refused c.args.values.now c.args.plan.now tells
    (g.H.Shelf.tells c.load_values.new.shelf) c.in_ok-values.values c.in_ok-values.ensures.values c.in_ok-values.ensures.kept
    (c.in_err-plan.ensures.refused refusal))

pub returns-in_err-plan-clause-cause : goal.returns-in_err-plan-clause-cause
returns-in_err-plan-clause-cause g c =
    let tells = g.H.Shelf.tells c.args.shelf.now in
    let counts = g.H.Shelf.faults c.args.shelf.now in
    let between = g.H.Shelf.faults c.load_values.new.shelf in
    let after = g.H.Shelf.faults c.load_plan.new.shelf in
    let stop = c.in_err-plan.field-0.0 in
    err-passed c.from_residual-in_err-plan.result stop
    (IsScaleStop c.args.values.now c.args.plan.now tells (Rises counts after)) c.from_residual-in_err-plan.ensures.1
    (scale-stop c.args.values.now c.args.plan.now tells
    (g.H.Shelf.tells c.load_values.new.shelf) counts between after c.in_ok-values.values stop
    c.in_ok-values.ensures.values c.in_ok-values.ensures.kept c.in_ok-values.ensures.only_rise c.in_err-plan.ensures.cause)

pub returns-in_err-values-clause-quiet : goal.returns-in_err-values-clause-quiet
returns-in_err-values-clause-quiet g c =
    fault-passed c.from_residual.result c.in_err-values.field-0.0
    (SameCounts (g.H.Shelf.faults c.args.shelf.now) (g.H.Shelf.faults c.load_values.new.shelf)) c.from_residual.ensures.1
    c.in_err-values.ensures.quiet

pub returns-in_err-plan-clause-quiet : goal.returns-in_err-plan-clause-quiet
returns-in_err-plan-clause-quiet g c =
    let counts = g.H.Shelf.faults c.args.shelf.now in
    let between = g.H.Shelf.faults c.load_values.new.shelf in
    let after = g.H.Shelf.faults c.load_plan.new.shelf in
    fault-passed c.from_residual-in_err-plan.result c.in_err-plan.field-0.0 (SameCounts counts after) c.from_residual-in_err-plan.ensures.1
    (fault-later c.in_err-plan.field-0.0 (SameCounts between after) (SameCounts counts after)
    (SameCounts-then counts between after c.in_ok-values.ensures.quiet) c.in_err-plan.ensures.quiet)

pub returns-in_err-scaling_text-clause-quiet : goal.returns-in_err-scaling_text-clause-quiet
returns-in_err-scaling_text-clause-quiet g c =
    let counts = g.H.Shelf.faults c.args.shelf.now in
    let between = g.H.Shelf.faults c.load_values.new.shelf in
    let after = g.H.Shelf.faults c.load_plan.new.shelf in
    unless_fault c.from_residual-in_err-scaling_text.result (SameCounts counts after)
    (SameCounts-then counts between after c.in_ok-values.ensures.quiet c.in_ok-plan.ensures.quiet)

pub returns-clause-quiet : goal.returns-clause-quiet
returns-clause-quiet g c =
    SameCounts-then (g.H.Shelf.faults c.args.shelf.now) (g.H.Shelf.faults c.load_values.new.shelf) (g.H.Shelf.faults c.load_plan.new.shelf)
    c.in_ok-values.ensures.quiet c.in_ok-plan.ensures.quiet

-- ---- counts of fetches

pub returns-in_err-values-clause-few : goal.returns-in_err-values-clause-few
returns-in_err-values-clause-few g c =
    fetched_within (g.H.Shelf.fetches c.args.shelf.now) (g.H.Shelf.fetches c.load_values.new.shelf) 1 2 (omega arith)
    (fetched_one (g.H.Shelf.fetches c.args.shelf.now) (g.H.Shelf.fetches c.load_values.new.shelf) c.in_err-values.ensures.counted)

pub returns-in_err-plan-clause-few : goal.returns-in_err-plan-clause-few
returns-in_err-plan-clause-few g c =
    fetched_next (g.H.Shelf.fetches c.args.shelf.now) (g.H.Shelf.fetches c.load_values.new.shelf) (g.H.Shelf.fetches c.load_plan.new.shelf)
    1 c.in_ok-values.ensures.counted
    (fetched_one (g.H.Shelf.fetches c.load_values.new.shelf) (g.H.Shelf.fetches c.load_plan.new.shelf) c.in_err-plan.ensures.counted)

pub returns-in_err-scaling_text-clause-few : goal.returns-in_err-scaling_text-clause-few
returns-in_err-scaling_text-clause-few g c =
    fetched_next (g.H.Shelf.fetches c.args.shelf.now) (g.H.Shelf.fetches c.load_values.new.shelf) (g.H.Shelf.fetches c.load_plan.new.shelf)
    1 c.in_ok-values.ensures.counted
    (fetched_one (g.H.Shelf.fetches c.load_values.new.shelf) (g.H.Shelf.fetches c.load_plan.new.shelf) c.in_ok-plan.ensures.counted)

pub returns-clause-few : goal.returns-clause-few
returns-clause-few g c =
    fetched_next (g.H.Shelf.fetches c.args.shelf.now) (g.H.Shelf.fetches c.load_values.new.shelf) (g.H.Shelf.fetches c.load_plan.new.shelf)
    1 c.in_ok-values.ensures.counted
    (fetched_one (g.H.Shelf.fetches c.load_values.new.shelf) (g.H.Shelf.fetches c.load_plan.new.shelf) c.in_ok-plan.ensures.counted)
