-- The steps that are not done: what is visited once they are.
use Rattle.std.proofs.Common.{◌≡◌, ◌<◌, ◌≤◌, ◌+◌, ℕ, List, [], ◌∷◌, ◌++◌, length, reverse, sym, ap, ap₂, ◌∙◌, subst, arith}
use Rattle.std.proofs.lemmas.List.{reverse-append}
use Rattle.std.proofs.lemmas.List.Sums.{sum_by_push}
use Rattle.fca_model.specs.Context.{Context}
use Rattle.fca_model.specs.Implications.{Rule}
use Rattle.fca_model.specs.StepBounds.{steps_bound}
use Rattle.fca_model.proofs.RoomLemmas.{room_below}
use Rattle.lectic_basis.specs.Watches.{Watched}
use Rattle.next_level.specs.LevelWalks.{HasListed}
use Rattle.next_level.specs.Steps.{IsStep, IsLowerChild, IsChild, IsBegun, AreLeft, steps_left}
use Rattle.next_level.specs.declared.walk.Step.{Step}
use Rattle.next_level.specs.declared.walk.Child.{Child}
use Rattle.next_level.proofs.LevelWalkLemmas.{inside_later, left_start, level_now, level_then, among_from}

-- the steps of a list, of which the last is the deepest
abbrev pub IsWalk : Context → (Watched → ℕ → List Rule → Type 0) → {W : ℕ} → List (Step W) → Watched → ℕ → List Rule → Type 0
IsWalk K Wanted steps F b Ls = AreLeft K Wanted (reverse steps) F b Ls

last_first : {W : ℕ} (steps : List (Step W)) (step : Step W) → reverse (steps ++ step ∷ []) ≡ step ∷ reverse steps
last_first steps step = reverse-append steps (step ∷ [])

pub walk_first : {K : Context} {W : ℕ} {step : Step W} {F : Watched} {b : ℕ} {Ls : List Rule} → IsStep K step F F b Ls
    → IsWalk K (HasListed K step.set step.from F) (step ∷ []) F b Ls
walk_first {F = F} s = (F, s, λ G c Ms h. h)

-- the step as if it were begun now
step_now : {K : Context} {W : ℕ} {step : Step W} {first F : Watched} {b : ℕ} {Ls : List Rule} → IsStep K step first F b Ls
    → IsStep K step F F b Ls
step_now {K = K} {step = step} {first = first} {F = F} s = record {
  at = inside_later s.at s.listed;
  listed = level_now s.listed;
  extent = s.extent;
  among = among_from first.list F.list K step.set step.from step.from step.among.whole step.among.sets.items s.listed.list
      (omega arith) s.among;
  order = s.order;
  inside = s.inside;
}

module _ (K : Context) (Wanted : Watched → ℕ → List Rule → Type 0) {W : ℕ} (steps : List (Step W)) (step : Step W) (F : Watched) (b : ℕ)
    (Ls : List Rule)
    (w : IsWalk K Wanted (steps ++ step ∷ []) F b Ls) where
  left : AreLeft K Wanted (step ∷ reverse steps) F b Ls
  left = subst (λ (xs : List (Step W)). AreLeft K Wanted xs F b Ls) (last_first steps step) w

  pub walk_step : IsStep K step F F b Ls
  walk_step = step_now left.1

  module _ (G : Watched) (c : ℕ) (Ms : List Rule) where
    -- no attribute is left to be tried
    pub walk_none : HasListed K step.set step.from F G c Ms → IsWalk K Wanted steps G c Ms
    walk_none h = left.2 G c Ms (level_then left.1.listed h)

    -- a child was entered
    module _ (child : Child W) (below : IsLowerChild step child) (entered : IsChild K step F G c Ms child) (new begun : Step W)
        (on : new ≡ record step { end = child.attribute })
        (begins : IsBegun K G child begun) where
      begun_step : IsStep K begun G G c Ms
      begun_step = record {
        at = rw (begins.set, begins.from) entered.left.at;
        listed = rw (begins.set, begins.end) (left_start entered.left);
        extent = rw begins.set begins.extent;
        among = rw (begins.set, begins.from) begins.among;
        order = omega (arith, begins.from, begins.end, entered.left.at.inside);
        inside = omega (arith, begins.end);
      }

      further : (H : Watched) (d : ℕ) (Ns : List Rule) → HasListed K begun.set begun.from G H d Ns
          → IsStep K (record step { end = child.attribute }) left.0 H d Ns
      further H d Ns h = record {
        at = left.1.at;
        listed = level_then left.1.listed (entered.done H d Ns (rw (begins.set, begins.from) at h));
        extent = left.1.extent;
        among = left.1.among;
        order = below.order;
        inside = omega (arith, below.before_end, left.1.inside);
      }

      pub walk_below : IsWalk K Wanted ((steps ++ new ∷ []) ++ begun ∷ []) G c Ms
      walk_below =
          subst (λ (xs : List (Step W)). AreLeft K Wanted xs G c Ms)
          (sym (last_first (steps ++ new ∷ []) begun ∙ ap (λ (xs : List (Step W)). begun ∷ xs)
          (last_first steps new ∙ ap (λ (s : Step W). s ∷ reverse steps) on)))
          (G, begun_step, λ H d Ns h. (left.0, further H d Ns h, left.2))

pub walk_done : (K : Context) (Wanted : Watched → ℕ → List Rule → Type 0) (F : Watched) (b : ℕ) (Ls : List Rule) {W : ℕ}
    (steps : List (Step W)) → length steps ≡ 0
    → IsWalk K Wanted steps F b Ls → Wanted F b Ls
walk_done K Wanted F b Ls [] none w = w
walk_done K Wanted F b Ls (step ∷ steps) none w = absurd (omega (arith, none))

-- ---- room for steps

module _ (n : ℕ) {W : ℕ} {olds : List (Step W)} (steps : List (Step W)) (step : Step W) (is : olds ≡ steps ++ step ∷ []) where
  all_room : steps_left n olds ≡ steps_left n steps + steps_bound n step.from step.end
  all_room = ap (λ (xs : List (Step W)). steps_left n xs) is ∙ sum_by_push (λ (s : Step W). steps_bound n s.from s.end) steps step

  pub room_done : steps_left n steps < steps_left n olds
  room_done = omega (arith, all_room)

  module _ {news lasts : List (Step W)} (new begun : Step W) {i : ℕ} (on : news ≡ steps ++ new ∷ []) (deeper : lasts ≡ news ++ begun ∷ [])
      (from : new.from ≡ step.from) (end : new.end ≡ i)
      (next : begun.from ≡ i + 1) (low : step.from ≤ i) (less : i < step.end) (inside : step.end ≤ n) where
    new_room : steps_left n news ≡ steps_left n steps + steps_bound n step.from i
    new_room = ap (λ (xs : List (Step W)). steps_left n xs) on ∙ sum_by_push (λ (s : Step W). steps_bound n s.from s.end) steps new
        ∙ ap₂ (λ f e. steps_left n steps + steps_bound n f e) from end

    last_room : steps_left n lasts ≡ steps_left n news + steps_bound n (i + 1) begun.end
    last_room = ap (λ (xs : List (Step W)). steps_left n xs) deeper ∙ sum_by_push (λ (s : Step W). steps_bound n s.from s.end) news begun
        ∙ ap (λ f. steps_left n news + steps_bound n f begun.end) next

    pub room_deeper : steps_left n lasts < steps_left n olds
    room_deeper = omega (arith, all_room, new_room, last_room, room_below n step.from i step.end begun.end low less inside)
