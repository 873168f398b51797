-- The steps of the way down the tree of intents that are not done.
use Rattle.std.specs.Prelude.{◌≡◌, ◌≤◌, ◌<◌, ◌+◌, ℕ, true, List, [], ◌∷◌, ◌++◌, length}
use Rattle.fca_model.specs.Sets.{Set, within}
use Rattle.fca_model.specs.Context.{Context, is_closed}
use Rattle.lectic_concepts.specs.Branches.{branch, AreWitnesses}
use Rattle.lectic_concepts.specs.declared.children.Step.{Step}
use Rattle.lectic_concepts.specs.declared.children.Child.{Child}
use Rattle.lectic_concepts.specs.declared.children.Descent.{Descent}
use Rattle.lectic_concepts.specs.declared.children.Descent.TheVariants.{End, WholeBranch, Below}

-- the step is at an intent of n attributes, with what its children need
pub record IsStep (n : ℕ) {W : ℕ} (step : Step W) : Type 0 where
  pub narrow : step.rows.width ≡ n
  pub wide : length step.intent ≡ n
  pub closed : is_closed step.rows step.intent ≡ true
  pub witnesses : AreWitnesses step.rows step.intent step.witnesses.items
  pub order : step.from ≤ step.end
  pub inside : step.end ≤ n

-- what is left below the intent of the step from attribute k on
abbrev pub branch_of : {W : ℕ} → Step W → ℕ → List Set
branch_of step k = branch step.rows step.intent k

-- the child is the last one of A from the attributes between these
pub record IsLastChild (K : Context) (A : Set) (from end : ℕ) {W : ℕ} (child : Child W) : Type 0 where
  pub wide : length child.intent ≡ K.width
  pub closed : is_closed K child.intent ≡ true
  pub larger : within A child.intent ≡ true
  pub at_least : from ≤ child.attribute
  pub in_range : child.attribute < end
  pub splits : branch K A child.attribute ≡ branch K A end ++ branch K child.intent (child.attribute + 1)

-- the step is at the intent D, and nothing below it was tried from attribute `start` on
pub record IsBegun (K : Context) (D : Set) (start : ℕ) {W : ℕ} (step : Step W) : Type 0 where
  pub at : IsStep K.width step
  pub intent : step.intent ≡ D
  pub from : step.from ≡ start
  pub end : step.end ≡ K.width
  pub same : (k : ℕ) → branch_of step k ≡ branch K D k

-- the step is at the same intent, and more of its attributes were tried
pub record IsFurther (n : ℕ) {W : ℕ} (old new : Step W) : Type 0 where
  pub step : IsStep n new
  pub rows : new.rows ≡ old.rows
  pub intent : new.intent ≡ old.intent
  pub from : new.from ≡ old.from
  pub less : new.end < old.end

-- what was listed behind `old`, and what is left
abbrev pub HasDescended : ℕ → List Set → List Set → {W : ℕ} → Step W → Step W → Descent W → Type 0
HasDescended n old new before after End = (new ≡ old) × (branch_of before before.from ≡ branch_of before before.end)
HasDescended n old new before after WholeBranch =
    IsFurther n before after × ((Xs : List Set) × (new ≡ old ++ Xs) × (branch_of before after.end ≡ branch_of before before.end ++ Xs))
HasDescended n old new before after (Below step) =
    IsFurther n before after × IsStep n step × (step.from ≡ after.end + 1) × (new ≡ old ++ branch_of step step.end)
    × (branch_of before after.end ≡ branch_of before before.end ++ branch_of step step.from)

-- after the sets Done were listed, the steps, of which the first is the deepest, have the rest of All
abbrev pub AreLeft : ℕ → {W : ℕ} → List Set → List (Step W) → List Set → Type 0
AreLeft n All [] Done = Done ≡ All
AreLeft n All (step ∷ steps) Done =
    IsStep n step × ((Before : List Set) × (Done ≡ Before ++ branch_of step step.end)
    × AreLeft n All steps (Before ++ branch_of step step.from))
