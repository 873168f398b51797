-- A file that was not fetched: what is read of it may be refused, if the stop refuses it, and the stop is one for that reading.
use Rattle.std.proofs.Common.{◌≡◌, ◌<◌, ℕ, Option, Some, None, cond, length, nat_le, refl}
use Rattle.std.proofs.lemmas.Bool.{lt-leb}
use Rattle.fca_model.specs.Tables.{Text}
use Rattle.fca_model.specs.declared.TheConstants.{FILE_BYTES}
use Rattle.fca_io.specs.Shelves.{Told, MayExceed}
use Rattle.value_tables.specs.Values.{ValueTable}
use Rattle.command_io.specs.Readings.{Reading, file_read, MayRefuse}
use Rattle.command_io.specs.Causes.{IsFetchStop, IsFileStop, IsValuesStop, IsPlanStop}
use Rattle.command_io.specs.Known.{IsImplicationsStop}
use Rattle.command_io.specs.Endings.{IsRefusal}
use Rattle.command_io.specs.declared.stop.Origin.{Origin}
use Rattle.command_io.specs.declared.stop.Origin.TheVariants.{Known}
use Rattle.command_io.specs.declared.stop.Stop.{Stop}
use Rattle.command_io.specs.declared.stop.Stop.TheVariants.{TooLong, NoCxt, NoCsv, BadValues, BadPlan, NoKnown, ReadFault, Memory}

-- a file that is too long is refused
exceeding-refused : {X : Type 0} (form : Text → Reading X) (told : Told) → MayExceed told FILE_BYTES → MayRefuse (file_read form told)
exceeding-refused form None more = tt
exceeding-refused form (Some None) more = absurd more
exceeding-refused form (Some (Some bytes)) more = rw (lt-leb (length bytes) FILE_BYTES more) tt

pub fetch-refused : {X : Type 0} (form : Text → Reading X) (told : Told) (rose : Type 0) (origin : Origin) (s : Stop)
    → IsFetchStop told rose origin s → IsRefusal s → MayRefuse (file_read form told)
fetch-refused form told rose origin (TooLong at) is refusal = exceeding-refused form told is.1
fetch-refused form told rose origin (ReadFault at) is refusal = absurd refusal
fetch-refused form told rose origin Memory is refusal = absurd refusal
fetch-refused form told rose origin _ is refusal = absurd is

pub fetch-file : (name : Text) (told : Told) (rose : Type 0) (origin : Origin) (s : Stop) → IsFetchStop told rose origin s
    → IsFileStop name told rose origin s
fetch-file name told rose origin (NoCxt at fault) is = absurd is
fetch-file name told rose origin (NoCsv at fault) is = absurd is
fetch-file name told rose origin _ is = is

pub fetch-values : (told : Told) (rose : Type 0) (origin : Origin) (s : Stop) → IsFetchStop told rose origin s
    → IsValuesStop told rose origin s
fetch-values told rose origin (BadValues at fault) is = absurd is
fetch-values told rose origin _ is = is

pub fetch-plan : (t : ValueTable) (told : Told) (rose : Type 0) (origin : Origin) (s : Stop) → IsFetchStop told rose origin s
    → IsPlanStop t told rose origin s
fetch-plan t told rose origin (BadPlan at fault) is = absurd is
fetch-plan t told rose origin _ is = is

pub fetch-known_said : (n : ℕ) (told : Told) (rose : Type 0) (s : Stop) → IsFetchStop told rose Known s → IsImplicationsStop n told rose s
fetch-known_said n told rose (NoKnown fault) is = absurd is
fetch-known_said n told rose _ is = is
