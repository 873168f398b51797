-- The steps that are not done: what is visited once they are.
use Rattle.std.proofs.Common.{◌≡◌, ◌<◌, ◌≤◌, ◌+◌, ◌-◌, ℕ, false, List, [], ◌∷◌, ◌++◌, Some, None, Result, Option, Ok, Err, IfOk}
use Rattle.std.proofs.Common.{MatchOption, length, get_or, reverse, sym, ap, ap₂, ◌∙◌, subst, arith}
use Rattle.std.proofs.lemmas.List.{reverse-append}
use Rattle.std.proofs.lemmas.List.Sums.{sum_by_push}
use Rattle.fca_model.specs.Sets.{Set}
use Rattle.fca_model.specs.Context.{Context}
use Rattle.fca_model.specs.Implications.{Rule}
use Rattle.extent_blocks.specs.Blocks.{IsExtent}
use Rattle.lectic_basis.specs.Forced.{AreForced, IsLonger, NoneToTry, IsLastToTry}
use Rattle.lectic_basis.specs.Watches.{Watched}
use Rattle.lectic_basis.specs.Walks.{IsBelow, IsTrying, HasFound, IsPart}
use Rattle.lectic_basis.specs.Steps.{IsStep, IsBegun, IsFurther, HasTried, AreLeft, steps_left}
use Rattle.lectic_basis.specs.declared.tree.Step.{Step}
use Rattle.fca_model.specs.StepBounds.{steps_bound}
use Rattle.fca_model.proofs.RoomLemmas.{room_less, room_below}
use Rattle.lectic_basis.proofs.ForcedLemmas.{forced_more}
use Rattle.lectic_basis.proofs.WalkLemmas.{trying, below_start, found_then, found_longer, none_found, last_found, tried_lacks}

-- the steps of a list, of which the last is the deepest
abbrev pub IsWalk : List Rule → Context → (Watched → Type 0) → {W : ℕ} → List (Step W) → Watched → Type 0
IsWalk S K Wanted steps F = AreLeft S K Wanted (reverse steps) F

last_first : {W : ℕ} (steps : List (Step W)) (step : Step W) → reverse (steps ++ step ∷ []) ≡ step ∷ reverse steps
last_first steps step = reverse-append steps (step ∷ [])

pub walk_first : {S : List Rule} {K : Context} {W : ℕ} {step : Step W} {F : Watched} → IsStep S K step F F
    → IsWalk S K (HasFound S K step.intent step.from (IsPart step.intent) F) (step ∷ []) F
walk_first {F = F} s = (F, s, λ G h. h)

module _ (S : List Rule) (K : Context) (Wanted : Watched → Type 0) {W : ℕ} (steps : List (Step W)) (step : Step W) (F : Watched)
    (w : IsWalk S K Wanted (steps ++ step ∷ []) F) where
  pub left : AreLeft S K Wanted (step ∷ reverse steps) F
  left = subst (λ (xs : List (Step W)). AreLeft S K Wanted xs F) (last_first steps step) w

  pub walk_step : IsStep S K step left.0 F
  walk_step = left.1

  -- no attribute is left to be tried
  pub walk_none : NoneToTry step.intent step.lists.forced.items step.from step.end → IsWalk S K Wanted steps F
  walk_none none = let s = walk_step in left.2 F
      (none_found step.lists.forced.items s.below s.forced (step.end - step.from) step.end step.from (omega (arith, s.order))
      (omega arith) s.inside s.found none)

  module _ {i : ℕ} (last : IsLastToTry step.intent step.lists.forced.items step.from step.end i) where
    found_behind : HasFound S K step.intent (i + 1) (IsPart step.intent) left.0 F
    found_behind = last_found step.lists.forced.items walk_step.below walk_step.forced walk_step.inside walk_step.found last

    pub walk_trying : IsTrying S K step.intent i F
    walk_trying = trying walk_step.below (omega (arith, last.in_range, walk_step.inside)) found_behind (omega arith) last.at_least

    pub walk_lacks : get_or step.intent i false ≡ false
    walk_lacks = tried_lacks step.intent step.lists.forced.items i last.tried

    -- the step after all behind attribute i was visited
    further : (G H : Watched) (new : Step W) → IsFurther K i G step new → IsLonger G.list.members H.list.members
        → HasFound S K step.intent i (IsPart step.intent) F H → AreLeft S K Wanted (new ∷ reverse steps) H
    further G H new f longer done = (
      left.0,
      record {
        below = rw (f.intent, f.from) walk_step.below;
        found = rw (f.intent, f.end) (found_then found_behind done);
        extent = f.extent;
        forced = forced_more G.list.members H.list.members new.intent new.lists.forced.items longer f.forced;
        order = omega (arith, f.from, f.end, last.at_least);
        inside = omega (arith, f.end, last.in_range, walk_step.inside);
      },
      rw (f.intent, f.from) left.2,
    )

    pub walk_tried : (G : Watched) (new : Step W) → HasTried S K i F G step new None → IsWalk S K Wanted (steps ++ new ∷ []) G
    walk_tried G new t = subst (λ (xs : List (Step W)). AreLeft S K Wanted xs G) (sym (last_first steps new))
        (further G G new t.0 (λ T r. r) t.1)

    pub walk_below : (G : Watched) (new below : Step W) → HasTried S K i F G step new (Some below)
        → IsWalk S K Wanted ((steps ++ new ∷ []) ++ below ∷ []) G
    walk_below G new below t =
        subst (λ (xs : List (Step W)). AreLeft S K Wanted xs G)
        (sym (last_first (steps ++ new ∷ []) below ∙ ap (λ (xs : List (Step W)). below ∷ xs) (last_first steps new)))
        (G, t.1, λ H h. further G H new t.0 (found_longer t.1.found h t.1.order) (t.3 H h))

pub walk_done : (S : List Rule) (K : Context) (Wanted : Watched → Type 0) (F : Watched) {W : ℕ} (steps : List (Step W)) → length steps ≡ 0
    → IsWalk S K Wanted steps F → Wanted F
walk_done S K Wanted F [] none w = w
walk_done S K Wanted F (step ∷ steps) none w = absurd (omega (arith, none))

-- the step begun at the child
module _ {S : List Rule} {K : Context} {A : Set} {i : ℕ} {F G : Watched} {W : ℕ} {old new : Step W} (f : IsFurther K i G old new)
    (below : IsBelow S K A (i + 1) G) (forced : AreForced G.list.members A new.lists.forced.items)
    (done : (H : Watched) → HasFound S K A (i + 1) (IsPart A) G H → HasFound S K old.intent i (IsPart old.intent) F H) where
  pub tried_none : NoneToTry A new.lists.forced.items (i + 1) K.width → HasTried S K i F G old new None
  tried_none none = (
    f,
    done G (none_found new.lists.forced.items below forced (K.width - (i + 1)) K.width (i + 1)
        (omega (arith, below.at.inside)) (omega arith) (omega arith) (below_start below) none),
  )

  pub tried_begun : (step : Step W) → IsBegun K A (i + 1) new.lists.forced.items step → HasTried S K i F G old new (Some step)
  tried_begun step b = (
    f,
    record {
      below = rw (b.intent, b.from) below;
      found = rw b.intent (none_found new.lists.forced.items below forced (K.width - step.end) K.width step.end
          (omega (arith, b.inside)) b.order (omega arith) (below_start below) b.none);
      extent = rw b.intent b.extent;
      forced = rw (b.intent, b.forced) forced;
      order = omega (arith, b.order, b.from);
      inside = b.inside;
    },
    b.from,
    λ H h. done H (rw (b.intent, b.from) at h),
  )

  pub tried_told : {E : Type 0} (r : Result (Option (Step W)) E)
      → IfOk r (λ o. MatchOption o (NoneToTry A new.lists.forced.items (i + 1) K.width) (IsBegun K A (i + 1) new.lists.forced.items))
      → IfOk r (HasTried S K i F G old new)
  tried_told (Err e) told = told
  tried_told (Ok None) told = tried_none told
  tried_told (Ok (Some step)) told = tried_begun step told

pub step_first : {S : List Rule} {K : Context} {W : ℕ} {F : Watched} (step : Step W) → IsBelow S K step.intent step.from F
    → step.end ≡ K.width → IsExtent K step.intent step.lists.extent
    → AreForced F.list.members step.intent step.lists.forced.items → IsStep S K step F F
step_first step below all extent forced = record {
  below = below;
  found = rw all (below_start below);
  extent = extent;
  forced = forced;
  order = omega (arith, all, below.at.inside);
  inside = omega (arith, all);
}

-- ---- room for steps

module _ (n : ℕ) {W : ℕ} {olds : List (Step W)} (steps : List (Step W)) (step : Step W) (is : olds ≡ steps ++ step ∷ []) where
  all_room : steps_left n olds ≡ steps_left n steps + steps_bound n step.from step.end
  all_room = ap (λ (xs : List (Step W)). steps_left n xs) is ∙ sum_by_push (λ (s : Step W). steps_bound n s.from s.end) steps step

  pub room_done : steps_left n steps < steps_left n olds
  room_done = omega (arith, all_room)

  module _ {news : List (Step W)} (new : Step W) {i : ℕ} (on : news ≡ steps ++ new ∷ []) (from : new.from ≡ step.from) (end : new.end ≡ i)
      (low : step.from ≤ i) (less : i < step.end) (inside : step.end ≤ n) where
    new_room : steps_left n news ≡ steps_left n steps + steps_bound n step.from i
    new_room = ap (λ (xs : List (Step W)). steps_left n xs) on ∙ sum_by_push (λ (s : Step W). steps_bound n s.from s.end) steps new
        ∙ ap₂ (λ f e. steps_left n steps + steps_bound n f e) from end

    pub room_tried : steps_left n news < steps_left n olds
    room_tried = omega (arith, all_room, new_room, room_less n step.from i step.end low less inside)

    pub room_deeper : {lasts : List (Step W)} (below : Step W) → lasts ≡ news ++ below ∷ [] → below.from ≡ i + 1
        → steps_left n lasts < steps_left n olds
    room_deeper {lasts = lasts} below deeper next =
        let last : steps_left n lasts ≡ steps_left n news + steps_bound n (i + 1) below.end = ap (λ (xs : List (Step W)). steps_left n xs) deeper
        ∙ sum_by_push (λ (s : Step W). steps_bound n s.from s.end) news below ∙ ap (λ f. steps_left n news + steps_bound n f below.end) next in
        omega (arith, all_room, new_room, last, room_below n step.from i step.end below.end low less inside)
