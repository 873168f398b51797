-- The steps of the walk that are not done.
use Rattle.std.specs.Prelude.{◌≡◌, ◌≤◌, ◌+◌, ℕ, Option, Some, None, List, [], ◌∷◌}
use Rattle.std.specs.List.{sum_by}
use Rattle.fca_model.specs.Sets.{Set}
use Rattle.fca_model.specs.Context.{Context}
use Rattle.fca_model.specs.Implications.{Rule}
use Rattle.extent_blocks.specs.Blocks.{IsExtent}
use Rattle.lectic_basis.specs.Forced.{AreForced, NoneToTry}
use Rattle.lectic_basis.specs.Watches.{Watched}
use Rattle.lectic_basis.specs.Walks.{IsBelow, HasFound, IsPart}
use Rattle.fca_model.specs.StepBounds.{steps_bound}
use Rattle.lectic_basis.specs.declared.tree.Step.{Step}

-- the step was begun when `first` was found, and now F is; all from its end on were visited
pub record IsStep (S : List Rule) (K : Context) {W : ℕ} (step : Step W) (first F : Watched) : Type 0 where
  pub below : IsBelow S K step.intent step.from first
  pub found : HasFound S K step.intent step.end (IsPart step.intent) first F
  pub extent : IsExtent K step.intent step.lists.extent
  pub forced : AreForced F.list.members step.intent step.lists.forced.items
  pub order : step.from ≤ step.end
  pub inside : step.end ≤ K.width

-- a step at A, from whose end on no attribute is to be tried
pub record IsBegun (K : Context) (A : Set) (start : ℕ) (ws : List ℕ) {W : ℕ} (step : Step W) : Type 0 where
  pub intent : step.intent ≡ A
  pub from : step.from ≡ start
  pub extent : IsExtent K A step.lists.extent
  pub forced : step.lists.forced.items ≡ ws
  pub order : start ≤ step.end
  pub inside : step.end ≤ K.width
  pub none : NoneToTry A ws step.end K.width

-- the step is at the same intent, attribute i was tried, and now G is found
pub record IsFurther (K : Context) (i : ℕ) (G : Watched) {W : ℕ} (old new : Step W) : Type 0 where
  pub intent : new.intent ≡ old.intent
  pub from : new.from ≡ old.from
  pub end : new.end ≡ i
  pub extent : IsExtent K new.intent new.lists.extent
  pub forced : AreForced G.list.members new.intent new.lists.forced.items

-- all below that comes of attribute i was visited, or is once all below the step told is
abbrev pub HasTried : List Rule → Context → ℕ → Watched → Watched → {W : ℕ} → Step W → Step W → Option (Step W) → Type 0
HasTried S K i F G old new None = IsFurther K i G old new × HasFound S K old.intent i (IsPart old.intent) F G
HasTried S K i F G old new (Some step) =
    IsFurther K i G old new × IsStep S K step G G × (step.from ≡ i + 1)
    × ((H : Watched) → HasFound S K step.intent step.from (IsPart step.intent) G H → HasFound S K old.intent i (IsPart old.intent) F H)

-- once the steps are done, of which the first is the deepest, what is found is as wanted
abbrev pub AreLeft : List Rule → Context → (Watched → Type 0) → {W : ℕ} → List (Step W) → Watched → Type 0
AreLeft S K Wanted [] F = Wanted F
AreLeft S K Wanted (step ∷ steps) F =
    (first : Watched) × IsStep S K step first F × ((G : Watched) → HasFound S K step.intent step.from (IsPart step.intent) first G
    → AreLeft S K Wanted steps G)

-- how many steps are left at most
abbrev pub steps_left : ℕ → {W : ℕ} → List (Step W) → ℕ
steps_left n steps = sum_by (λ step. steps_bound n step.from step.end) steps
