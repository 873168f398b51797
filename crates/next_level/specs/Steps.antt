-- The steps of the walk that are not done.
use Rattle.std.specs.Prelude.{◌≡◌, ◌≤◌, ◌<◌, ◌+◌, ℕ, true, false, List, [], ◌∷◌, slice_index_or, slice_set}
use Rattle.std.specs.List.{sum_by}
use Rattle.fca_model.specs.Sets.{within, agree_before}
use Rattle.fca_model.specs.Context.{Context}
use Rattle.fca_model.specs.Implications.{Rule}
use Rattle.extent_blocks.specs.Blocks.{IsExtent}
use Rattle.fca_model.specs.StepBounds.{steps_bound}
use Rattle.lectic_basis.specs.Watches.{Watched}
use Rattle.next_level.specs.Among.{AreAmong}
use Rattle.next_level.specs.LevelWalks.{IsInside, IsBelow, HasListed}
use Rattle.next_level.specs.declared.walk.Step.{Step}
use Rattle.next_level.specs.declared.walk.Child.{Child}

-- the step was begun when `first` was found, and now F is, with the open sets Ls up to b; all from its end on were visited
pub record IsStep (K : Context) {W : ℕ} (step : Step W) (first F : Watched) (b : ℕ) (Ls : List Rule) : Type 0 where
  pub at : IsInside K step.set step.from first
  pub listed : HasListed K step.set step.end first F b Ls
  pub extent : IsExtent K step.set step.extent
  pub among : AreAmong first.list.members K step.set step.from step.among.whole step.among.sets.items
  pub order : step.from ≤ step.end
  pub inside : step.end ≤ K.width

-- the child agrees with the set of the step before its attribute, which that set lacks, and contains both
pub record IsLowerChild {W : ℕ} (step : Step W) (child : Child W) : Type 0 where
  pub order : step.from ≤ child.attribute
  pub before_end : child.attribute < step.end
  pub lacks : slice_index_or step.set child.attribute false ≡ false
  pub larger : within (slice_set step.set child.attribute true) child.set ≡ true
  pub agree : agree_before child.attribute step.set child.set ≡ true

-- the child was entered, from F to G; once all below it was visited, all from its attribute on was
pub record IsChild (K : Context) {W : ℕ} (step : Step W) (F G : Watched) (b : ℕ) (Ls : List Rule) (child : Child W) : Type 0 where
  pub left : IsBelow K child.set (child.attribute + 1) G b Ls
  pub list : G.list ≡ F.list
  pub done : (H : Watched) (c : ℕ) (Ms : List Rule) → HasListed K child.set (child.attribute + 1) G H c Ms
      → HasListed K step.set child.attribute F H c Ms

-- a step at the child, where no attribute was tried
pub record IsBegun (K : Context) (F : Watched) {W : ℕ} (child : Child W) (step : Step W) : Type 0 where
  pub set : step.set ≡ child.set
  pub from : step.from ≡ child.attribute + 1
  pub end : step.end ≡ K.width
  pub extent : IsExtent K child.set step.extent
  pub among : AreAmong F.list.members K child.set (child.attribute + 1) step.among.whole step.among.sets.items

-- once the steps are done, of which the first is the deepest, what is found is as wanted
abbrev pub AreLeft : Context → (Watched → ℕ → List Rule → Type 0) → {W : ℕ} → List (Step W) → Watched → ℕ → List Rule → Type 0
AreLeft K Wanted [] F b Ls = Wanted F b Ls
AreLeft K Wanted (step ∷ steps) F b Ls =
    (first : Watched) × IsStep K step first F b Ls
    × ((G : Watched) (c : ℕ) (Ms : List Rule) → HasListed K step.set step.from first G c Ms → AreLeft K Wanted steps G c Ms)

-- how many steps are left at most
abbrev pub steps_left : ℕ → {W : ℕ} → List (Step W) → ℕ
steps_left n steps = sum_by (λ step. steps_bound n step.from step.end) steps
