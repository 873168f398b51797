-- What a call leaves of the streams that it writes to.
use Rattle.std.specs.Prelude.{◌≡◌, ◌⊎◌, ℕ, Option, None, Some, Result}
use Rattle.std.specs.Io.KnownBytes.{Appends}
use Rattle.fca_model.specs.Tables.{Text}
use Rattle.fca_io.specs.Faults.{Rose}
use Rattle.fca_io.specs.Transfers.{AppendsFront}
use Rattle.command_io.specs.Endings.{Output, Outcome, MayBecome, status_of}
use Rattle.command_io.specs.Endings.Outcome.{Written, CutOff, Stopped}
use Rattle.command_io.specs.ErrLines.{line_of}
use Rattle.command_io.specs.declared.stop.Stop.{Stop}

-- a stream at one moment: itself, the bytes that it holds or has left, if it tells them, and its count of faults
pub record Moment (X : Type 0) : Type 0 where
  pub it : X
  pub bytes : Option Text
  pub faults : ℕ

abbrev pub moment : {X : Type 0} → (X → Option Text) → (X → ℕ) → X → Moment X
moment bytes faults x = record { it = x; bytes = bytes x; faults = faults x }

-- what out gained: the whole text, and its count of faults is as it was; a front of the text, and its count rose; or nothing
abbrev pub GainsText : {K : Type 0} → Outcome → Moment K → Moment K → Type 0
GainsText (Written output) old new = Appends old.bytes new.bytes output.text × (new.faults ≡ old.faults)
GainsText (CutOff output) old new = AppendsFront old.bytes new.bytes output.text × Rose old.faults new.faults
GainsText (Stopped stop) old new = new ≡ old

-- what err gained: nothing; the whole line, and its count of faults is as it was; or a front of the line, and its count rose
abbrev pub GainsLine : {E : Type 0} → Option Text → Moment E → Moment E → Type 0
GainsLine None old new = new ≡ old
GainsLine (Some line) old new =
    (Appends old.bytes new.bytes line × (new.faults ≡ old.faults)) ⊎ (AppendsFront old.bytes new.bytes line × Rose old.faults new.faults)

-- What a call did with an output or a stop; `file` gives the name of the file at fault
pub record HasConcluded {K E : Type 0} (output : Result Output Stop) (file : Stop → Text) (out out' : Moment K) (err err' : Moment E)
    (result : ℕ) : Type 0 where
  pub outcome : Outcome
  pub became : MayBecome output outcome
  pub status : result ≡ status_of outcome
  pub text : GainsText outcome out out'
  pub line : GainsLine (line_of file outcome) err err'
