-- The steps that are not done: what is left to gather, and how much room is left for more steps.
use Rattle.std.proofs.Common.{◌≡◌, ◌<◌, ◌≤◌, ◌+◌, ℕ, List, [], ◌∷◌, ◌++◌, length, reverse, refl, sym, ap, ap₂, ◌∙◌, subst, arith}
use Rattle.std.proofs.Common.{append_assoc}
use Rattle.std.proofs.lemmas.List.{reverse-append}
use Rattle.std.proofs.lemmas.List.Sums.{sum_by_push}
use Rattle.fca_model.specs.Sets.{Set}
use Rattle.fca_model.specs.Context.{Context}
use Rattle.lectic_concepts.specs.Branches.{branch}
use Rattle.concept_walk.specs.Gatherings.{Fills}
use Rattle.concept_walk.specs.Steps.{IsStep, BeginsAt, IsFurther, AreLeft, HasDescended, steps_left}
use Rattle.fca_model.specs.StepBounds.{steps_bound}
use Rattle.fca_model.proofs.RoomLemmas.{room_less, room_below}
use Rattle.concept_walk.specs.declared.gathering.Gathering.{Gathering}
use Rattle.concept_walk.specs.declared.steps.Step.{Step}
use Rattle.concept_walk.specs.declared.steps.Descent.TheVariants.{End, WholeBranch, Below}
use Rattle.concept_walk.proofs.LineLemmas.{Fills-append}

-- ---- what is left

module _ (K : Context) {W : ℕ} (All : List Set) where
  -- a step with no child left is done
  left_none : (step : Step W) (steps : List (Step W)) (Done : List Set) → AreLeft K All (step ∷ steps) Done
      → branch K step.intent step.from ≡ branch K step.intent step.candidates.end → AreLeft K All steps Done
  left_none step steps Done u none = subst (AreLeft K All steps) (ap (λ (Xs : List Set). u.1.0 ++ Xs) none ∙ sym u.1.1) u.1.2

  left_further : (step new : Step W) (steps : List (Step W)) (Done Xs : List Set) → AreLeft K All (step ∷ steps) Done → IsFurther K step new
      → branch K step.intent new.candidates.end ≡ branch K step.intent step.candidates.end ++ Xs → AreLeft K All (new ∷ steps) (Done ++ Xs)
  left_further step new steps Done Xs u f splits = (
    f.step,
    (
      u.1.0,
      ap (λ (Ys : List Set). Ys ++ Xs) u.1.1 ∙ append_assoc u.1.0 (branch K step.intent step.candidates.end) Xs
          ∙ ap (λ (Ys : List Set). u.1.0 ++ Ys) (sym splits ∙ ap (λ (A : Set). branch K A new.candidates.end) (sym f.intent)),
      subst (AreLeft K All steps) (ap₂ (λ (A : Set) (k : ℕ). u.1.0 ++ branch K A k) (sym f.intent) (sym f.from)) u.1.2,
    ),
  )

-- ---- the walk

-- what was gathered, and the steps that are left, of which the last is the deepest
abbrev pub IsWalk : (K : Context) {W : ℕ} → List Set → Gathering W → Gathering W → List (Step W) → Type 0
IsWalk K All old gathering steps = (Done : List Set) × Fills K old gathering Done × AreLeft K All (reverse steps) Done

last_first : {W : ℕ} (steps : List (Step W)) (step : Step W) → reverse (steps ++ step ∷ []) ≡ step ∷ reverse steps
last_first steps step = reverse-append steps (step ∷ [])

module _ (K : Context) {W : ℕ} (All : List Set) (old gathering new : Gathering W) (steps : List (Step W)) (step : Step W)
    (w : IsWalk K All old gathering (steps ++ step ∷ [])) where
  left : AreLeft K All (step ∷ reverse steps) w.0
  left = subst (λ (xs : List (Step W)). AreLeft K All xs w.0) (last_first steps step) w.2

  pub walk_step : IsStep K step
  walk_step = left.0

  pub walk_none : HasDescended K gathering new step step End → IsWalk K All old new steps
  walk_none descent = (w.0, descent.0 ∙ w.1, left_none K All step (reverse steps) w.0 left descent.1)

  pub walk_whole : (after : Step W) → HasDescended K gathering new step after WholeBranch → IsWalk K All old new (steps ++ after ∷ [])
  walk_whole after descent = (
    w.0 ++ descent.1.0,
    Fills-append K old gathering new w.0 descent.1.0 w.1 descent.1.1,
    subst (λ (xs : List (Step W)). AreLeft K All xs (w.0 ++ descent.1.0)) (sym (last_first steps after))
        (left_further K All step after (reverse steps) w.0 descent.1.0 left descent.0 descent.1.2),
  )

  pub walk_below : (after below : Step W) → HasDescended K gathering new step after (Below below)
      → IsWalk K All old new ((steps ++ after ∷ []) ++ below ∷ [])
  walk_below after below descent = (
    w.0 ++ branch K below.intent below.candidates.end,
    Fills-append K old gathering new w.0 (branch K below.intent below.candidates.end) w.1 descent.3,
    subst (λ (xs : List (Step W)). AreLeft K All xs (w.0 ++ branch K below.intent below.candidates.end))
        (sym (last_first (steps ++ after ∷ []) below ∙ ap (λ (xs : List (Step W)). below ∷ xs) (last_first steps after)))
        (descent.1, (w.0, refl, left_further K All step after (reverse steps) w.0 (branch K below.intent below.from) left descent.0 descent.4)),
  )

pub walk_begin : (K : Context) {W : ℕ} (A : Set) (from end : ℕ) (old gathering : Gathering W) (steps : List (Step W)) (step : Step W)
    → steps ≡ step ∷ []
    → BeginsAt K A from end step → Fills K old gathering (branch K A end) → IsWalk K (branch K A from) old gathering steps
walk_begin K A from end old gathering steps step is b filled = subst (IsWalk K (branch K A from) old gathering) (sym is) (
  branch K A end,
  filled,
  subst (λ (xs : List (Step _)). AreLeft K (branch K A from) xs (branch K A end)) (sym (last_first [] step))
      (b.is_step, ([], ap₂ (branch K) (sym b.intent) (sym b.end), ap₂ (branch K) b.intent b.from)),
)

pub walk_done : (K : Context) {W : ℕ} (All : List Set) (old gathering : Gathering W) (steps : List (Step W)) → length steps ≡ 0
    → IsWalk K All old gathering steps → Fills K old gathering All
walk_done K All old gathering [] none w = subst (Fills K old gathering) w.2 w.1
walk_done K All old gathering (step ∷ steps) none w = absurd (omega (arith, none))

-- ---- room for steps

module _ (n : ℕ) {W : ℕ} {olds : List (Step W)} (steps : List (Step W)) (step : Step W) (is : olds ≡ steps ++ step ∷ []) where
  all_room : steps_left n olds ≡ steps_left n steps + steps_bound n step.from step.candidates.end
  all_room = ap (λ (xs : List (Step W)). steps_left n xs) is ∙ sum_by_push (λ (s : Step W). steps_bound n s.from s.candidates.end) steps step

  pub room_done : steps_left n steps < steps_left n olds
  room_done = omega (arith, all_room)

  module _ {news : List (Step W)} (new : Step W) (on : news ≡ steps ++ new ∷ []) (from : new.from ≡ step.from)
      (low : step.from ≤ new.candidates.end) (less : new.candidates.end < step.candidates.end) (inside : step.candidates.end ≤ n) where
    new_room : steps_left n news ≡ steps_left n steps + steps_bound n step.from new.candidates.end
    new_room = ap (λ (xs : List (Step W)). steps_left n xs) on ∙ sum_by_push (λ (s : Step W). steps_bound n s.from s.candidates.end) steps new
        ∙ ap (λ f. steps_left n steps + steps_bound n f new.candidates.end) from

    pub room_tried : steps_left n news < steps_left n olds
    room_tried = omega (arith, all_room, new_room, room_less n step.from new.candidates.end step.candidates.end low less inside)

    pub room_deeper : {lasts : List (Step W)} (below : Step W) → lasts ≡ news ++ below ∷ [] → below.from ≡ new.candidates.end + 1
        → steps_left n lasts < steps_left n olds
    room_deeper {lasts = lasts} below deeper next =
        let last : steps_left n lasts ≡ steps_left n news + steps_bound n (new.candidates.end + 1) below.candidates.end =
        ap (λ (xs : List (Step W)). steps_left n xs) deeper ∙ sum_by_push (λ (s : Step W). steps_bound n s.from s.candidates.end) news below
        ∙ ap (λ f. steps_left n news + steps_bound n f below.candidates.end) next in
        omega (
          arith,
          all_room,
          new_room,
          last,
          room_below n step.from new.candidates.end step.candidates.end below.candidates.end low less
              inside,
        )
