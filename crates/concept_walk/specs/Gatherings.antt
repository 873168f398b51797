-- The concepts of intents.
use Rattle.std.specs.Prelude.{◌≡◌, ℕ, List, ◌++◌, map}
use Rattle.fca_model.specs.Sets.{Set}
use Rattle.fca_model.specs.Context.{Context, extent}
use Rattle.concept_walk.specs.declared.gathering.Gathering.{Gathering}

-- an intent with its objects
abbrev pub concept_at : Context → Set → Set × List ℕ
concept_at K A = (A, extent K A)

-- the concepts of these intents were added
abbrev pub Fills : Context → {W : ℕ} → Gathering W → Gathering W → List Set → Type 0
Fills K old new Xs = new.concepts ≡ old.concepts ++ map (concept_at K) Xs

-- the gathering has the concepts of these intents
abbrev pub IsGathering : Context → {W : ℕ} → Gathering W → List Set → Type 0
IsGathering K gathering Xs = gathering.concepts ≡ map (concept_at K) Xs
