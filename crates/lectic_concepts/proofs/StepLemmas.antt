-- The steps that are not done: what is left of the list, and how much room is left for more steps.
use Rattle.std.proofs.Common.{◌≡◌, ℕ, List, [], ◌∷◌, ◌++◌, length, reverse, refl, sym, ap, ap₂, ◌∙◌, subst, arith}
use Rattle.std.proofs.Common.{append_assoc}
use Rattle.std.proofs.lemmas.List.{reverse-append}
use Rattle.fca_model.specs.Sets.{Set}
use Rattle.fca_model.specs.Context.{Context}
use Rattle.lectic_concepts.specs.Branches.{branch}
use Rattle.lectic_concepts.specs.Steps.{IsStep, IsFurther, AreLeft, HasDescended, branch_of}
use Rattle.lectic_concepts.specs.declared.children.Step.{Step}
use Rattle.lectic_concepts.specs.declared.children.Descent.{Descent}
use Rattle.lectic_concepts.specs.declared.children.Descent.TheVariants.{End, WholeBranch, Below}

-- ---- what is left

module _ (n : ℕ) {W : ℕ} (All : List Set) where
  -- a step with no child left is done
  left_none : (step : Step W) (steps : List (Step W)) (Done : List Set) → AreLeft n All (step ∷ steps) Done
      → branch_of step step.from ≡ branch_of step step.end → AreLeft n All steps Done
  left_none step steps Done u none = subst (AreLeft n All steps) (ap (λ (Xs : List Set). u.1.0 ++ Xs) none ∙ sym u.1.1) u.1.2

  left_further : (step new : Step W) (steps : List (Step W)) (Done Xs : List Set) → AreLeft n All (step ∷ steps) Done → IsFurther n step new
      → branch_of step new.end ≡ branch_of step step.end ++ Xs → AreLeft n All (new ∷ steps) (Done ++ Xs)
  left_further step new steps Done Xs u f splits =
      let same : (k : ℕ) → branch_of step k ≡ branch_of new k =
      λ k. ap₂ (λ (K : Context) (A : Set). branch K A k) (sym f.rows) (sym f.intent) in (
        f.step,
        (
          u.1.0,
          ap (λ (Ys : List Set). Ys ++ Xs) u.1.1 ∙ append_assoc u.1.0 (branch_of step step.end) Xs
              ∙ ap (λ (Ys : List Set). u.1.0 ++ Ys) (sym splits ∙ same new.end),
          subst (AreLeft n All steps) (ap (λ (Ys : List Set). u.1.0 ++ Ys) (same step.from ∙ ap (branch_of new) (sym f.from))) u.1.2,
        ),
      )

-- ---- the walk

-- the steps of a list, of which the last is the deepest
abbrev pub IsWalk : ℕ → {W : ℕ} → List Set → List (Step W) → List Set → Type 0
IsWalk n All steps Done = AreLeft n All (reverse steps) Done

pub walk_first : (n : ℕ) {W : ℕ} (old : List Set) (step : Step W) → IsStep n step → branch_of step step.end ≡ step.intent ∷ []
    → IsWalk n (old ++ branch_of step step.from) (step ∷ []) (old ++ step.intent ∷ [])
walk_first n old step s end = (s, (old, ap (λ (Xs : List Set). old ++ Xs) (sym end), refl))

module _ (n : ℕ) {W : ℕ} (All old new : List Set) (steps : List (Step W)) (step : Step W) (w : IsWalk n All (steps ++ step ∷ []) old) where
  left : AreLeft n All (step ∷ reverse steps) old
  left = subst (λ (xs : List (Step W)). AreLeft n All xs old) (reverse-append steps (step ∷ [])) w

  pub walk_step : IsStep n step
  walk_step = left.0

  pub walk_own : IsStep step.rows.width step
  walk_own = subst (λ k. IsStep k step) (sym left.0.narrow) left.0

  at_all : (d : Descent W) (after : Step W) → HasDescended step.rows.width old new step after d → HasDescended n old new step after d
  at_all d after h = subst (λ k. HasDescended k old new step after d) left.0.narrow h

  pub walk_none : (after : Step W) → HasDescended step.rows.width old new step after End → IsWalk n All steps new
  walk_none after h = subst (AreLeft n All (reverse steps)) (sym h.0) (left_none n All step (reverse steps) old left h.1)

  pub walk_whole : (after : Step W) → HasDescended step.rows.width old new step after WholeBranch → IsWalk n All (steps ++ after ∷ []) new
  walk_whole after h =
      let d : HasDescended n old new step after WholeBranch = at_all WholeBranch after h in
      subst (AreLeft n All (reverse (steps ++ after ∷ []))) (sym d.1.1)
      (subst (λ (xs : List (Step W)). AreLeft n All xs (old ++ d.1.0)) (sym (reverse-append steps (after ∷ [])))
      (left_further n All step after (reverse steps) old d.1.0 left d.0 d.1.2))

  pub walk_below : (after below : Step W) → HasDescended step.rows.width old new step after (Below below)
      → IsWalk n All ((steps ++ after ∷ []) ++ below ∷ []) new
  walk_below after below h =
      let d : HasDescended n old new step after (Below below) = at_all (Below below) after h in
      let deeper : reverse ((steps ++ after ∷ []) ++ below ∷ []) ≡ below ∷ (after ∷ reverse steps) =
      reverse-append (steps ++ after ∷ []) (below ∷ []) ∙ ap (λ (xs : List (Step W)). below ∷ xs) (reverse-append steps (after ∷ [])) in
      subst (AreLeft n All (reverse ((steps ++ after ∷ []) ++ below ∷ []))) (sym d.3)
      (subst (λ (xs : List (Step W)). AreLeft n All xs (old ++ branch_of below below.end)) (sym deeper)
      (d.1, (old, refl, left_further n All step after (reverse steps) old (branch_of below below.from) left d.0 d.4)))

pub walk_done : (n : ℕ) {W : ℕ} (All Done : List Set) (steps : List (Step W)) → length steps ≡ 0 → IsWalk n All steps Done → Done ≡ All
walk_done n All Done [] none w = w
walk_done n All Done (step ∷ steps) none w = absurd (omega (arith, none))
