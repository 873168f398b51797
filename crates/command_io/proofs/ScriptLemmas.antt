-- What cannot be read to its end is refused for no form.
use Rattle.std.proofs.Common.{◌≡◌, Err, IsErrOf, subst}
use Rattle.fca_io.specs.declared.outside.Taken.{Taken}
use Rattle.fca_io.specs.declared.outside.Taken.TheVariants as taken
use Rattle.expert_scripts.specs.declared.fault.ScriptFault.{ScriptFault}
use Rattle.command_io.specs.Causes.{taken_stop}
use Rattle.command_io.specs.declared.stop.Origin.{Origin}
use Rattle.command_io.specs.declared.stop.Stop.{Stop}
use Rattle.command_io.specs.declared.stop.Stop.TheVariants.{NoScript}

pub stop-no-script : {Y : Type 0} (t : Taken) (origin : Origin) (s : Stop) (fault : ScriptFault) → s ≡ taken_stop t origin
    → IsErrOf {T = Y} (Err s) (NoScript fault) → ⊥
stop-no-script {Y} t origin s fault is refused =
    let Refuses : Stop → Type 0 = λ z. IsErrOf {T = Y} (Err z) (NoScript fault) in by_taken t (subst Refuses is refused)
  where
    by_taken : (u : Taken) → IsErrOf {T = Y} (Err (taken_stop u origin)) (NoScript fault) → ⊥
    by_taken taken.Failed e = cc
    by_taken taken.Long e = cc
    by_taken taken.Memory e = cc
