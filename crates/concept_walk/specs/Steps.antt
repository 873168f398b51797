-- The steps of the walk that are not done.
use Rattle.std.specs.Prelude.{◌≡◌, ◌<◌, ◌≤◌, ◌+◌, ℕ, true, Option, Some, None, List, [], ◌∷◌, ◌++◌, length, take}
use Rattle.std.specs.List.{sum_by}
use Rattle.fca_model.specs.Sets.{Set}
use Rattle.fca_model.specs.Context.{Context, extent, is_closed}
use Rattle.lectic_concepts.specs.Branches.{branch, AreWitnesses}
use Rattle.fca_model.specs.StepBounds.{steps_bound}
use Rattle.concept_walk.specs.Nodes.{AreCandidates}
use Rattle.concept_walk.specs.Gatherings.{Fills}
use Rattle.concept_walk.specs.declared.node.Candidates.{Candidates}
use Rattle.concept_walk.specs.declared.node.Node.{Node}
use Rattle.concept_walk.specs.declared.gathering.Gathering.{Gathering}
use Rattle.concept_walk.specs.declared.steps.Step.{Step}
use Rattle.concept_walk.specs.declared.steps.Descent.{Descent}
use Rattle.concept_walk.specs.declared.steps.Descent.TheVariants.{End, WholeBranch, Below}

-- the step is at an intent, with what is needed to find its children
pub record IsStep (K : Context) {W : ℕ} (step : Step W) : Type 0 where
  pub wide : length step.intent ≡ K.width
  pub closed : is_closed K step.intent ≡ true
  pub places : take step.count step.places.items ≡ extent K step.intent
  pub few : step.count ≤ length step.places.items
  pub witnesses : AreWitnesses K step.intent step.witnesses.items
  pub noted : AreWitnesses K step.intent step.work_lists.noted.items
  pub candidates : AreCandidates K step.intent step.candidates
  pub order : step.from ≤ step.candidates.end

-- the step is at this intent, and its children come from an attribute between these two
pub record BeginsAt (K : Context) {W : ℕ} (A : Set) (i k : ℕ) (step : Step W) : Type 0 where
  pub is_step : IsStep K step
  pub intent : step.intent ≡ A
  pub from : step.from ≡ i
  pub end : step.candidates.end ≡ k

-- the step is at the same intent, and more of its attributes were tried
pub record IsFurther (K : Context) {W : ℕ} (old new : Step W) : Type 0 where
  pub step : IsStep K new
  pub intent : new.intent ≡ old.intent
  pub from : new.from ≡ old.from
  pub less : new.candidates.end < old.candidates.end

-- the node's branch was gathered whole, or as far as the candidates say
abbrev pub HasEntered : Context → {W : ℕ} → Gathering W → Gathering W → Node W → Option (Candidates W) → Type 0
HasEntered K old new node None = Fills K old new (branch K node.intent.now node.from)
HasEntered K old new node (Some left) = AreCandidates K node.intent.now left × (node.from ≤ left.end)
    × Fills K old new (branch K node.intent.now left.end)

-- what was gathered, and what is left
abbrev pub HasDescended : Context → {W : ℕ} → Gathering W → Gathering W → Step W → Step W → Descent W → Type 0
HasDescended K old new before after End =
    (new.concepts ≡ old.concepts) × (branch K before.intent before.from ≡ branch K before.intent before.candidates.end)
HasDescended K old new before after WholeBranch =
    IsFurther K before after × ((Xs : List Set) × Fills K old new Xs
    × (branch K before.intent after.candidates.end ≡ branch K before.intent before.candidates.end ++ Xs))
HasDescended K old new before after (Below step) =
    IsFurther K before after × IsStep K step × (step.from ≡ after.candidates.end + 1)
    × Fills K old new (branch K step.intent step.candidates.end)
    × (branch K before.intent after.candidates.end ≡ branch K before.intent before.candidates.end ++ branch K step.intent step.from)

-- after the sets Done were met, the steps, of which the first is the deepest, meet the rest of All
abbrev pub AreLeft : Context → {W : ℕ} → List Set → List (Step W) → List Set → Type 0
AreLeft K All [] Done = Done ≡ All
AreLeft K All (step ∷ steps) Done =
    IsStep K step × ((Before : List Set) × (Done ≡ Before ++ branch K step.intent step.candidates.end)
    × AreLeft K All steps (Before ++ branch K step.intent step.from))

-- how many steps are left at most
abbrev pub steps_left : ℕ → {W : ℕ} → List (Step W) → ℕ
steps_left n steps = sum_by (λ step. steps_bound n step.from step.candidates.end) steps
