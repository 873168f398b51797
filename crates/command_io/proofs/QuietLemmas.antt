-- Counts of faults that stay: no call of the outside failed, or the stop says which did.
use Rattle.std.proofs.Common.{◌≡◌, ◌∙◌, ℕ, Result, Ok, Err, IsErrOf, IsErrAnd, sym, subst}
use Rattle.fca_model.specs.Tables.{Text}
use Rattle.fca_io.specs.declared.outside.Taken.{Taken}
use Rattle.fca_io.specs.declared.outside.Taken.TheVariants as taken
use Rattle.command_io.specs.Readings.{SameCounts}
use Rattle.command_io.specs.Causes.{UnlessReadFault, UnlessListenerFault, taken_stop}
use Rattle.command_io.specs.declared.stop.Origin.{Origin}
use Rattle.command_io.specs.declared.stop.Stop.{Stop}
use Rattle.command_io.specs.declared.stop.Stop.TheVariants.{ReadFault, ListenerFault}

-- what holds holds unless a call failed
pub unless_fault : {X : Type 0} (r : Result X Stop) (P : Type 0) → P → UnlessReadFault r P
unless_fault (Err (ReadFault origin)) P p = tt
unless_fault _ P p = p

pub unless_listener : {X : Type 0} (r : Result X Stop) (P : Type 0) → P → UnlessListenerFault r P
unless_listener (Err ListenerFault) P p = tt
unless_listener _ P p = p

-- what follows of it holds too
pub unless_fault-more : {X : Type 0} (r : Result X Stop) (P Q : Type 0) → (P → Q) → UnlessReadFault r P → UnlessReadFault r Q
unless_fault-more (Err (ReadFault origin)) P Q more p = tt
unless_fault-more _ P Q more p = more p

pub unless_listener-more : {X : Type 0} (r : Result X Stop) (P Q : Type 0) → (P → Q) → UnlessListenerFault r P → UnlessListenerFault r Q
unless_listener-more (Err ListenerFault) P Q more p = tt
unless_listener-more _ P Q more p = more p

-- what the exit of a `?` returns is the stop that was passed
pub fault-passed : {X : Type 0} (r : Result X Stop) (s : Stop) (P : Type 0) → IsErrAnd r (λ passed. passed ≡ s)
    → UnlessReadFault {X = Unit {0}} (Err s) P → UnlessReadFault r P
fault-passed (Ok x) s P passed p = absurd passed
fault-passed {X = X} (Err t) s P passed p = let Holds : Stop → Type 0 = λ z. UnlessReadFault {X = X} (Err z) P in
    subst Holds (sym passed) (by_stop s p)
  where
    by_stop : (z : Stop) → UnlessReadFault {X = Unit {0}} (Err z) P → UnlessReadFault {X = X} (Err z) P
    by_stop (ReadFault origin) q = tt
    by_stop _ q = q

pub listener-passed : {X : Type 0} (r : Result X Stop) (s : Stop) (P : Type 0) → IsErrAnd r (λ passed. passed ≡ s)
    → UnlessListenerFault {X = Unit {0}} (Err s) P → UnlessListenerFault r P
listener-passed (Ok x) s P passed p = absurd passed
listener-passed {X = X} (Err t) s P passed p = let Holds : Stop → Type 0 = λ z. UnlessListenerFault {X = X} (Err z) P in
    subst Holds (sym passed) (by_stop s p)
  where
    by_stop : (z : Stop) → UnlessListenerFault {X = Unit {0}} (Err z) P → UnlessListenerFault {X = X} (Err z) P
    by_stop ListenerFault q = tt
    by_stop _ q = q

-- what follows of it, where this stop is passed
pub fault-later : (s : Stop) (P Q : Type 0) → (P → Q) → UnlessReadFault {X = Unit {0}} (Err s) P → UnlessReadFault {X = Unit {0}} (Err s) Q
fault-later s P Q more p = unless_fault-more {X = Unit {0}} (Err s) P Q more p

-- why bytes were not taken
pub fault-taken : {Y : Type 0} (t : Taken) (origin : Origin) (s : Stop) (P : Type 0) → s ≡ taken_stop t origin
    → (¬ IsErrOf {T = Y} (Err t) taken.Failed → P) → UnlessReadFault {X = Unit {0}} (Err s) P
fault-taken {Y = Y} t origin s P is holds =
    let Holds : Stop → Type 0 = λ z. UnlessReadFault {X = Unit {0}} (Err z) P in subst Holds (sym is) (by_taken t holds)
  where
    by_taken : (u : Taken) → (¬ IsErrOf {T = Y} (Err u) taken.Failed → P) → UnlessReadFault {X = Unit {0}} (Err (taken_stop u origin)) P
    by_taken taken.Failed q = tt
    by_taken taken.Long q = q (λ e. cc)
    by_taken taken.Memory q = q (λ e. cc)

-- one after the other
pub SameCounts-then : (a b c : Text → ℕ) → SameCounts a b → SameCounts b c → SameCounts a c
SameCounts-then a b c here then = λ file. then file ∙ here file
