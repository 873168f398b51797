-- How code that may run out of memory answers what a form says.
use Rattle.std.specs.Prelude.{◌≡◌, ◌⊎◌, MatchResult, ℕ, Option, Some, None, Result, Ok, Err}

-- the answer of the code is what the form says, seen in this way, or that memory ran out
abbrev pub TellsBy : {X Y E : Type 0} → E → (X → Y) → Result X E → Result Y E → Type 0
TellsBy memory view told form = MatchResult told (λ x. form ≡ Ok (view x)) (λ e. (e ≡ memory) ⊎ (form ≡ Err e))

-- the answer of the code is what the form says, or that memory ran out
abbrev pub Tells : {X E : Type 0} → E → Result X E → Result X E → Type 0
Tells memory told form = TellsBy memory (λ x. x) told form

-- goes on with what was read
abbrev pub then : {X Y E : Type 0} → Result X E → (X → Result Y E) → Result Y E
then (Ok x) next = next x
then (Err e) next = Err e

-- the fault if a place is at fault; otherwise goes on
abbrev pub unless : {X E : Type 0} → Option ℕ → (ℕ → E) → Result X E → Result X E
unless (Some place) fault next = Err (fault place)
unless None fault next = next
