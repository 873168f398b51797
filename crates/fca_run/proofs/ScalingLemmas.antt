-- The plan is read behind the table of values: what may be read of both may be written, and a stop there is one of both.
use Rattle.std.proofs.Common.{◌≡◌, ◌≤◌, ℕ, List, inr, refl, subst}
use Rattle.fca_model.specs.Tables.{Text}
use Rattle.fca_io.specs.Shelves.{Told}
use Rattle.value_tables.specs.Values.{ValueTable}
use Rattle.context_scaling.specs.Scaling.{PlanRecord, scaled}
use Rattle.cxt_format.specs.Written.{cxt_text}
use Rattle.command_io.specs.Readings.{then, MayRead, MayRefuse, Rises}
use Rattle.command_io.specs.Readings.Reading.{Read}
use Rattle.command_io.specs.Forms.{values_read, plan_read}
use Rattle.command_io.specs.Endings.{Output, finished}
use Rattle.command_io.specs.Causes.{IsPlanStop}
use Rattle.command_io.specs.declared.stop.Origin.{Origin}
use Rattle.command_io.specs.declared.stop.Origin.TheVariants.{Later}
use Rattle.command_io.specs.declared.stop.Stop.{Stop}
use Rattle.command_io.specs.declared.stop.Stop.TheVariants.{ReadFault}
use Rattle.command_io.proofs.ReadingLemmas.{refused_then, refused_after, read_after}
use Rattle.command_io.proofs.KnownLemmas.{Rises-before}
use Rattle.fca_run.specs.Causes.{IsScaleStop}
use Rattle.fca_run.specs.Outputs.{scale_output}

-- the table that the plan makes of the values, as what is written
abbrev scaled_output : ValueTable → List PlanRecord → Output
scaled_output t p = finished (cxt_text (scaled t p))

pub scale-read : (values plan : Text) (tells now : Text → Told) (t : ValueTable) (p : List PlanRecord) → MayRead (values_read (tells values)) t
    → ((other : Text) → now other ≡ tells other)
    → MayRead (plan_read t (now plan)) p → MayRead (scale_output values plan tells) (scaled_output t p)
scale-read values plan tells now t p here same may =
    let Reads : Told → Type 0 = λ told. MayRead (plan_read t told) p in
    read_after (values_read (tells values)) t (λ u. then (plan_read u (tells plan)) (λ q. Read (scaled_output u q)))
    (scaled_output t p) here
    (read_after (plan_read t (tells plan)) p (λ q. Read (scaled_output t q)) (scaled_output t p) (subst Reads (same plan) may) refl)

pub scale-refused : (values plan : Text) (tells now : Text → Told) (t : ValueTable) → MayRead (values_read (tells values)) t
    → ((other : Text) → now other ≡ tells other)
    → MayRefuse (plan_read t (now plan)) → MayRefuse (scale_output values plan tells)
scale-refused values plan tells now t here same may =
    let Refuses : Told → Type 0 = λ told. MayRefuse (plan_read t told) in
    refused_after (values_read (tells values)) t (λ u. then (plan_read u (tells plan)) (λ q. Read (scaled_output u q))) here
    (refused_then (plan_read t (tells plan)) (λ q. Read (scaled_output t q)) (subst Refuses (same plan) may))

-- a file is at fault where a count rose for it
IsPlanStop-more : (t : ValueTable) (told : Told) (rose rose' : Type 0) (origin : Origin) (s : Stop) → (rose → rose')
    → IsPlanStop t told rose origin s → IsPlanStop t told rose' origin s
IsPlanStop-more t told rose rose' origin (ReadFault at) more is = (is.0, more is.1)
IsPlanStop-more t told rose rose' origin _ more is = is

pub scale-stop : (values plan : Text) (tells now : Text → Told) (counts between after : Text → ℕ) (t : ValueTable) (s : Stop)
    → MayRead (values_read (tells values)) t
    → ((other : Text) → now other ≡ tells other) → ((other : Text) → counts other ≤ between other)
    → IsPlanStop t (now plan) (Rises between after plan) (Later 0) s → IsScaleStop values plan tells (Rises counts after) s
scale-stop values plan tells now counts between after t s here same later is =
    let Stops : Told → Type 0 = λ told. IsPlanStop t told (Rises counts after plan) (Later 0) s in
    inr (
      t,
      here,
      subst Stops (same plan)
          (IsPlanStop-more t (now plan) (Rises between after plan) (Rises counts after plan) (Later 0) s
          (Rises-before counts between after plan later) is),
    )
