-- A fault is blamed only where its count rose, since its cause says so; and so a command whose files and input have their forms stops for
-- nothing but a fault whose count rose, or want of memory.
use Rattle.std.proofs.Common.{◌≡◌, ◌⊎◌, ◌∷◌, [], ◌++◌, ◌+◌, ℕ, List, Option, Some, None, Result, Ok, Err, inl, inr, refl, sym, subst}
use Rattle.std.specs.Prelude.{IfErr, option_to_list}
use Rattle.fca_model.specs.Tables.{Text, NamedContext}
use Rattle.fca_io.specs.Faults.{Rose}
use Rattle.fca_io.specs.Shelves.{Told}
use Rattle.value_tables.specs.Values.{ValueTable}
use Rattle.fca_command.specs.declared.command.Command.{Command}
use Rattle.fca_command.specs.declared.command.Command.TheVariants.{Concepts, Lattice, Basis, Direct, Follows, Convert, Reduce, Arrows}
use Rattle.fca_command.specs.declared.command.Command.TheVariants.{Scale, Replay, Explore, Serve, Make, Survey}
use Rattle.command_io.specs.Readings.{Reading, MayRefuse, Rises, SomeRose}
use Rattle.command_io.specs.Readings.Reading.{Untold, Missing, Refused, Read}
use Rattle.command_io.specs.Causes.{IsFileStop, IsValuesStop, IsPlanStop, IsScriptStop}
use Rattle.command_io.specs.Known.{IsImplicationsStop, IsKnownStop, IsStartStop}
use Rattle.command_io.specs.Endings.{Output, IsRefusal}
use Rattle.command_io.specs.declared.stop.Origin.{Origin}
use Rattle.command_io.specs.declared.stop.Origin.TheVariants.{File, Later, Input}
use Rattle.command_io.specs.declared.stop.Stop.{Stop}
use Rattle.command_io.specs.declared.stop.Stop.TheVariants.{NoCommand, NoScript, RowBreaks, UnknownAttribute, OtherAttributes, ReadFault}
use Rattle.command_io.specs.declared.stop.Stop.TheVariants.{ListenerFault, Memory}
use Rattle.expert_scripts.specs.Scripts.{ScriptContent}
use Rattle.expert_scripts.specs.declared.fault.ScriptFault.TheVariants.{BadLine}
use Rattle.replay_command.specs.Replayed.{IsSettingsStop, IsInputStop, IsReplayStop}
use Rattle.explore_command.specs.Starts.{IsExpertsStop, IsExploreStop}
use Rattle.serve_command.specs.Served.{IsServeStop}
use Rattle.fca_run.specs.Causes.{IsReportStop, IsScaleStop}
use Rattle.fca_run.specs.Calls.{Outside, IsBlamed, IsGiven, FaultRose, LinkFaultRose, IsCommandStop}

-- a stop of this name is blamed as it is
named : (R L : Type 0) (s known : Stop) → IsBlamed R L known → s ≡ known → IsBlamed R L s
named R L s known blamed e = subst (IsBlamed R L) (sym e) blamed

-- ---- what is read

module _ (rose R L : Type 0) (more : rose → R) where
  file-blamed : (name : Text) (told : Told) (origin : Origin) (s : Stop) → IsFileStop name told rose origin s → IsBlamed R L s
  file-blamed name told origin NoCommand is = absurd is
  file-blamed name told origin ListenerFault is = absurd is
  file-blamed name told origin (ReadFault at) is = more is.1
  file-blamed name told origin _ is = tt

  values-blamed : (told : Told) (origin : Origin) (s : Stop) → IsValuesStop told rose origin s → IsBlamed R L s
  values-blamed told origin NoCommand is = absurd is
  values-blamed told origin ListenerFault is = absurd is
  values-blamed told origin (ReadFault at) is = more is.1
  values-blamed told origin _ is = tt

  plan-blamed : (t : ValueTable) (told : Told) (origin : Origin) (s : Stop) → IsPlanStop t told rose origin s → IsBlamed R L s
  plan-blamed t told origin NoCommand is = absurd is
  plan-blamed t told origin ListenerFault is = absurd is
  plan-blamed t told origin (ReadFault at) is = more is.1
  plan-blamed t told origin _ is = tt

  implications-blamed : (n : ℕ) (told : Told) (s : Stop) → IsImplicationsStop n told rose s → IsBlamed R L s
  implications-blamed n told NoCommand is = absurd is
  implications-blamed n told ListenerFault is = absurd is
  implications-blamed n told (ReadFault at) is = more is.1
  implications-blamed n told _ is = tt

  script-blamed : (n : ℕ) (input : Option Text) (s : Stop) → IsScriptStop n input rose s → IsBlamed R L s
  script-blamed n input NoCommand is = absurd is
  script-blamed n input ListenerFault is = absurd is
  script-blamed n input (ReadFault at) is = more is.1
  script-blamed n input _ is = tt

  report-blamed : (command : Command) (file : Text) (told : Told) (s : Stop) → IsReportStop command file told rose s → IsBlamed R L s
  report-blamed command file told s (inl is) = file-blamed file told File s is
  report-blamed command file told s (inr unknown) = named R L s UnknownAttribute tt unknown.0

-- of one of these files
pub SomeRose-append : (counts counts' : Text → ℕ) (xs ys : List Text) → SomeRose counts counts' xs ⊎ SomeRose counts counts' ys
    → SomeRose counts counts' (xs ++ ys)
SomeRose-append counts counts' [] ys (inl rose) = absurd rose
SomeRose-append counts counts' [] ys (inr rose) = rose
SomeRose-append counts counts' (x ∷ xs) ys (inl (inl rose)) = inl rose
SomeRose-append counts counts' (x ∷ xs) ys (inl (inr rose)) = inr (SomeRose-append counts counts' xs ys (inl rose))
SomeRose-append counts counts' (x ∷ xs) ys (inr rose) = inr (SomeRose-append counts counts' xs ys (inr rose))

module _ (counts counts' : Text → ℕ) (R L : Type 0) where
  known-blamed : (known : Option Text) (table : NamedContext) (files : Text → Told) (s : Stop)
      → (SomeRose counts counts' (option_to_list known) → R)
      → IsKnownStop known table files (Rises counts counts') s → IsBlamed R L s
  known-blamed None table files s more memory = named R L s Memory tt memory
  known-blamed (Some known) table files s more (inl is) =
      implications-blamed (Rises counts counts' known) R L (λ rose. more (inl rose)) table.context.width (files known) s is
  known-blamed (Some known) table files s more (inr broken) = named R L s (RowBreaks File broken.2.0.0 broken.2.0.1) tt broken.2.2

  start-blamed : (file : Text) (known : Option Text) (files : Text → Told) (s : Stop)
      → (SomeRose counts counts' (file ∷ option_to_list known) → R)
      → IsStartStop file known files (Rises counts counts') s → IsBlamed R L s
  start-blamed file known files s more (inl is) =
      file-blamed (Rises counts counts' file) R L (λ rose. more (inl rose)) file (files file) File s is
  start-blamed file known files s more (inr later) = known-blamed known later.0 files s (λ rose. more (inr rose)) later.2

  experts-blamed : (table : NamedContext) (place : ℕ) (experts : List Text) (files : Text → Told) (s : Stop)
      → (SomeRose counts counts' experts → R)
      → IsExpertsStop table place experts files (Rises counts counts') s → IsBlamed R L s
  experts-blamed table place [] files s more memory = named R L s Memory tt memory
  experts-blamed table place (file ∷ experts) files s more (inl (inl is)) =
      file-blamed (Rises counts counts' file) R L (λ rose. more (inl rose)) file (files file) (Later place) s is
  experts-blamed table place (file ∷ experts) files s more (inl (inr other)) = named R L s (OtherAttributes (Later place)) tt other.0
  experts-blamed table place (file ∷ experts) files s more (inr later) =
      experts-blamed table (place + 1) experts files s (λ rose. more (inr rose)) later.2

  settings-blamed : (known : Option Text) (table : NamedContext) (said : ScriptContent) (s : Stop) → IsSettingsStop known table said s
      → IsBlamed R L s
  settings-blamed None table said s broken = named R L s (RowBreaks Input broken.0.0 broken.0.1) tt broken.2
  settings-blamed (Some known) table said s second = named R L s (NoScript (BadLine second.0)) tt second.2

  input-blamed : (rose : Type 0) (known : Option Text) (table : NamedContext) (input : Option Text) (s : Stop) → (rose → R)
      → IsInputStop known table input rose s → IsBlamed R L s
  input-blamed rose known table input s more (inl is) = script-blamed rose R L more table.context.width input s is
  input-blamed rose known table input s more (inr later) = settings-blamed known table later.0 s later.2

  replay-blamed : (rose : Type 0) (file : Text) (known : Option Text) (files : Text → Told) (input : Option Text) (s : Stop)
      → (SomeRose counts counts' (file ∷ option_to_list known) → R) → (rose → R)
      → IsReplayStop file known files input (Rises counts counts') rose s → IsBlamed R L s
  replay-blamed rose file known files input s more read (inl is) = start-blamed file known files s more is
  replay-blamed rose file known files input s more read (inr later) = input-blamed rose known later.0.table input s read later.2

  explore-blamed : (file : Text) (known : Option Text) (experts : List Text) (files : Text → Told) (s : Stop)
      → (SomeRose counts counts' (file ∷ option_to_list known ++ experts) → R)
      → IsExploreStop file known experts files (Rises counts counts') s → IsBlamed R L s
  explore-blamed file known experts files s more (inl is) =
      start-blamed file known files s (λ rose. more (SomeRose-append counts counts' (file ∷ option_to_list known) experts (inl rose))) is
  explore-blamed file known experts files s more (inr later) =
      experts-blamed later.0.table 0 experts files s
      (λ rose. more (SomeRose-append counts counts' (file ∷ option_to_list known) experts (inr rose))) later.2

  serve-blamed : (file : Text) (known : Option Text) (files : Text → Told) (s : Stop)
      → (SomeRose counts counts' (file ∷ option_to_list known) → R)
      → IsServeStop file known files (Rises counts counts') L s → IsBlamed R L s
  serve-blamed file known files s more (inl is) = start-blamed file known files s more is
  serve-blamed file known files s more (inr later) = named R L s ListenerFault later.3 later.0

  scale-blamed : (values plan : Text) (files : Text → Told) (s : Stop) → (SomeRose counts counts' (values ∷ plan ∷ []) → R)
      → IsScaleStop values plan files (Rises counts counts') s → IsBlamed R L s
  scale-blamed values plan files s more (inl is) =
      values-blamed (Rises counts counts' values) R L (λ rose. more (inl rose)) (files values) File s is
  scale-blamed values plan files s more (inr later) =
      plan-blamed (Rises counts counts' plan) R L (λ rose. more (inr (inl rose))) later.0 (files plan) (Later 0) s later.2

-- ---- commands

module _ {H S E F : Type 0} where
  report : (command : Command) (file : Text) (old new : Outside H S E F) (B : Type 0) (s : Stop)
      → IsReportStop command file (old.shelf.tells file) (Rises old.shelf.faults new.shelf.faults file) s
      → IsBlamed (SomeRose old.shelf.faults new.shelf.faults (file ∷ []) ⊎ B) ⊥ s
  report command file old new B s is =
      report-blamed (Rises old.shelf.faults new.shelf.faults file) (SomeRose old.shelf.faults new.shelf.faults (file ∷ []) ⊎ B) ⊥
      (λ rose. inl (inl rose))
      command file (old.shelf.tells file) s is

  pub stop-blamed : (command : Command) (old new : Outside H S E F) (s : Stop) → IsCommandStop command old new s
      → IsBlamed (FaultRose command old new) (LinkFaultRose command old new) s
  stop-blamed (Concepts file json) old new s is = report (Concepts file json) file old new _ s is
  stop-blamed (Lattice file) old new s is = report (Lattice file) file old new _ s is
  stop-blamed (Basis file json) old new s is = report (Basis file json) file old new _ s is
  stop-blamed (Direct file) old new s is = report (Direct file) file old new _ s is
  stop-blamed (Follows file premise conclusion) old new s is = report (Follows file premise conclusion) file old new _ s is
  stop-blamed (Convert file to) old new s is = report (Convert file to) file old new _ s is
  stop-blamed (Reduce file) old new s is = report (Reduce file) file old new _ s is
  stop-blamed (Arrows file) old new s is = report (Arrows file) file old new _ s is
  stop-blamed (Scale values plan) old new s is =
      scale-blamed old.shelf.faults new.shelf.faults (FaultRose (Scale values plan) old new) ⊥ values plan old.shelf.tells s
      (λ rose. inl rose) is
  stop-blamed (Replay file known) old new s is =
      replay-blamed old.shelf.faults new.shelf.faults (FaultRose (Replay file known) old new) ⊥
      (Rose old.input.faults new.input.faults) file known old.shelf.tells old.input.bytes s
      (λ rose. inl rose) (λ rose. inr (refl, rose)) is
  stop-blamed (Explore file known names experts) old new s is =
      explore-blamed old.shelf.faults new.shelf.faults
      (FaultRose (Explore file known names experts) old new) ⊥ file known experts old.shelf.tells s (λ rose. inl rose) is
  stop-blamed (Serve file known experts holders listen) old new s is =
      serve-blamed old.shelf.faults new.shelf.faults (FaultRose (Serve file known experts holders listen) old new)
      (LinkFaultRose (Serve file known experts holders listen) old new)
      file known old.shelf.tells s (λ rose. inl rose) is
  stop-blamed (Make seed objects attributes density) old new s memory =
      named (FaultRose (Make seed objects attributes density) old new) ⊥ s Memory tt memory
  stop-blamed (Survey seed objects attributes density experts) old new s memory =
      named (FaultRose (Survey seed objects attributes density experts) old new) ⊥ s Memory tt memory

-- ---- nothing else stops a command whose files and input have their forms

given-refused : {X : Type 0} (r : Reading X) → MayRefuse r → IsGiven r → ⊥
given-refused Untold may given = given
given-refused Missing may given = given
given-refused Refused may given = given
given-refused (Read x) may given = may

given-stops : {X : Type 0} (reading : Reading X) (R L : Type 0) (s : Stop) → IsBlamed R L s → (IsRefusal s → MayRefuse reading)
    → IsGiven reading → (s ≡ Memory) ⊎ (R ⊎ L)
given-stops reading R L NoCommand blamed refused given = absurd blamed
given-stops reading R L (ReadFault origin) blamed refused given = inr (inl blamed)
given-stops reading R L ListenerFault blamed refused given = inr (inr blamed)
given-stops reading R L Memory blamed refused given = inl refl
given-stops reading R L _ blamed refused given = absurd (given-refused reading (refused tt) given)

pub given-comes : {X : Type 0} (reading : Reading X) (R L : Type 0) (output : Result Output Stop) → IfErr output (IsBlamed R L)
    → IfErr output (λ stop. (IsRefusal stop → MayRefuse reading))
    → IsGiven reading → IfErr output (λ stop. (stop ≡ Memory) ⊎ (R ⊎ L))
given-comes reading R L (Ok output) blamed refused given = tt
given-comes reading R L (Err stop) blamed refused given = given-stops reading R L stop blamed refused given
