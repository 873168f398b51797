use Rattle.std.proofs.Common.{ℕ, List, ◌∷◌, ◌++◌, [], ◌∙◌, refl, sym, ap, subst, arith}
use Rattle.fca_model.specs.Context.{Context}
use Rattle.fca_model.specs.Implications.{Rule}
use Rattle.lectic_basis.specs.Watches.{Watched}
use Rattle.next_level.specs.LevelWalks.{HasListed}
use Rattle.next_level.specs.declared.walk.Step.{Step}
use Rattle.next_level.proofs.LevelWalkLemmas.{steady_same, steady_then, among_from}
use Rattle.next_level.proofs.StepLemmas.{IsWalk, walk_first, walk_step, walk_none, walk_below, walk_done, room_done, room_deeper}
use Rattle.next_level.proofs.walk.visit_below.Goals as goal

pub loop-step-init : goal.loop-step-init
loop-step-init g c =
    let K : Context = c.args.indexed.now in
    let first : Step g.row.W = c.args.first in
    record {
      walk = subst (λ (xs : List (Step g.row.W)). IsWalk K
          (HasListed K first.set first.from c.args.rules.now) xs c.args.rules.now c.args.seen.now.bound c.args.seen.now.members.items)
          (sym c.in_ok-steps.ensures.items) (walk_first c.requires);
      steady = steady_same;
    }

pub next_child-requires : goal.next_child-requires
next_child-requires g c =
    let K : Context = c.args.indexed.now in
    let first : Step g.row.W = c.args.first in
    let Wanted : Watched → ℕ → List Rule → Type 0 = HasListed K first.set first.from c.args.rules.now in
    let seen = c.loop-step.seen in
    let walk = subst (λ (xs : List (Step g.row.W)). IsWalk K Wanted xs c.loop-step.rules seen.bound seen.members.items)
    c.in-Some.ensures.items c.loop-step.invariant.walk in (
      omega arith,
      (
        omega arith,
        (
          omega arith,
          (
            omega (arith, c.width-width.ensures.words),
            (omega arith, walk_step K Wanted c.pop.new.self.items c.in-Some.step c.loop-step.rules seen.bound seen.members.items walk),
          ),
        ),
      ),
    )

pub loop-step-smaller-in_default-child : goal.loop-step-smaller-in_default-child
loop-step-smaller-in_default-child g c = room_done c.args.indexed.now.width c.pop.new.self.items c.in-Some.step c.in-Some.ensures.items

pub loop-step-preserved-in_default-child : goal.loop-step-preserved-in_default-child
loop-step-preserved-in_default-child g c =
    let K : Context = c.args.indexed.now in
    let first : Step g.row.W = c.args.first in
    let Wanted : Watched → ℕ → List Rule → Type 0 = HasListed K first.set first.from c.args.rules.now in
    let seen = c.loop-step.seen in
    let walk = subst (λ (xs : List (Step g.row.W)). IsWalk K Wanted xs c.loop-step.rules seen.bound seen.members.items)
    c.in-Some.ensures.items c.loop-step.invariant.walk in
    record {
      walk = walk_none K Wanted c.pop.new.self.items c.in-Some.step c.loop-step.rules seen.bound seen.members.items walk
          c.next_child.new.rules c.next_child.new.seen.bound c.next_child.new.seen.members.items
          (rw c.in_default-child.is at c.in_ok-child.ensures.child);
      steady = steady_then c.loop-step.invariant.steady c.in_ok-child.ensures.steady;
    }

pub step_below-requires : goal.step_below-requires
step_below-requires g c =
    let K : Context = c.args.indexed.now in
    let first : Step g.row.W = c.args.first in
    let Wanted : Watched → ℕ → List Rule → Type 0 = HasListed K first.set first.from c.args.rules.now in
    let seen = c.loop-step.seen in
    let walk = subst (λ (xs : List (Step g.row.W)). IsWalk K Wanted xs c.loop-step.rules seen.bound seen.members.items)
    c.in-Some.ensures.items c.loop-step.invariant.walk in
    let step : Step g.row.W = c.in-Some.step in
    let s = walk_step K Wanted c.pop.new.self.items step c.loop-step.rules seen.bound seen.members.items walk in
    let below = rw c.in-Some-child.is at c.in_ok-child.ensures.below in
    let entered = rw c.in-Some-child.is at c.in_ok-child.ensures.child in
    let words = c.width-width.ensures.words in
    let among = among_from c.loop-step.rules.list c.next_child.new.rules.list K step.set step.from step.from step.among.whole
    step.among.sets.items entered.list (omega arith) s.among in (
      omega arith,
      (
        omega arith,
        (
          omega (arith, words),
          (omega (arith, words), (s.at.wide, (omega (arith, below.before_end, s.inside), (below, (s.extent, among))))),
        ),
      ),
    )

pub loop-step-smaller : goal.loop-step-smaller
loop-step-smaller g c =
    let K : Context = c.args.indexed.now in
    let first : Step g.row.W = c.args.first in
    let Wanted : Watched → ℕ → List Rule → Type 0 = HasListed K first.set first.from c.args.rules.now in
    let seen = c.loop-step.seen in
    let walk = subst (λ (xs : List (Step g.row.W)). IsWalk K Wanted xs c.loop-step.rules seen.bound seen.members.items)
    c.in-Some.ensures.items c.loop-step.invariant.walk in
    let s = walk_step K Wanted c.pop.new.self.items c.in-Some.step c.loop-step.rules seen.bound seen.members.items walk in
    let below = rw c.in-Some-child.is at c.in_ok-child.ensures.below in
    let step : Step g.row.W = c.in-Some.step in
    room_deeper K.width c.pop.new.self.items step c.in-Some.ensures.items
    (record step { end = c.in-Some-child.child.attribute }) c.in_ok-below.below c.in_ok-push.ensures.items c.in_ok-push-2.ensures.items
    refl refl
    c.in_ok-below.ensures.from below.order below.before_end s.inside

pub loop-step-preserved : goal.loop-step-preserved
loop-step-preserved g c =
    let K : Context = c.args.indexed.now in
    let first : Step g.row.W = c.args.first in
    let Wanted : Watched → ℕ → List Rule → Type 0 = HasListed K first.set first.from c.args.rules.now in
    let seen = c.loop-step.seen in
    let next = c.next_child.new.seen in
    let walk = subst (λ (xs : List (Step g.row.W)). IsWalk K Wanted xs c.loop-step.rules seen.bound seen.members.items)
    c.in-Some.ensures.items c.loop-step.invariant.walk in
    let below = rw c.in-Some-child.is at c.in_ok-child.ensures.below in
    let entered = rw c.in-Some-child.is at c.in_ok-child.ensures.child in
    let step : Step g.row.W = c.in-Some.step in
    let new : Step g.row.W = record step { end = c.in-Some-child.child.attribute } in
    let deeper : Step g.row.W = c.in_ok-below.below in
    record {
      walk = subst (λ (xs : List (Step g.row.W)). IsWalk K Wanted xs c.next_child.new.rules next.bound next.members.items)
          (sym (c.in_ok-push-2.ensures.items ∙ ap (λ (xs : List (Step g.row.W)). xs ++ deeper ∷ []) c.in_ok-push.ensures.items))
          (walk_below K Wanted c.pop.new.self.items step c.loop-step.rules seen.bound seen.members.items walk c.next_child.new.rules
          next.bound next.members.items c.in-Some-child.child below entered new deeper refl
          c.in_ok-below.ensures);
      steady = steady_then c.loop-step.invariant.steady c.in_ok-child.ensures.steady;
    }

pub returns-clause-listed : goal.returns-clause-listed
returns-clause-listed g c =
    let K : Context = c.args.indexed.now in
    let first : Step g.row.W = c.args.first in
    walk_done K (HasListed K first.set first.from c.args.rules.now) c.loop-step.rules c.loop-step.seen.bound c.loop-step.seen.members.items
    c.loop-step.steps.items
    (omega (arith, c.in_default.ensures.cases.0, c.loop-step.steps.ok.0)) c.loop-step.invariant.walk

pub returns-clause-steady : goal.returns-clause-steady
returns-clause-steady g c = c.loop-step.invariant.steady
