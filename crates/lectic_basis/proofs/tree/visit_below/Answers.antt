use Rattle.std.proofs.Common.{ℕ, List, ◌∷◌, ◌++◌, [], ◌∙◌, sym, ap, subst, arith}
use Rattle.fca_model.specs.Context.{Context}
use Rattle.lectic_basis.specs.Forced.{NoneToTry, IsLastToTry}
use Rattle.lectic_basis.specs.Walks.{HasFound, IsPart}
use Rattle.lectic_basis.specs.Watches.{Watched}
use Rattle.lectic_basis.specs.declared.tree.Step.{Step}
use Rattle.lectic_basis.proofs.StepLemmas.{IsWalk, walk_first, walk_step, walk_none, walk_trying, walk_lacks, walk_tried, walk_below}
use Rattle.lectic_basis.proofs.StepLemmas.{walk_done, room_done, room_tried, room_deeper}
use Rattle.lectic_basis.proofs.tree.visit_below.Goals as goal

pub loop-step-init : goal.loop-step-init
loop-step-init g c =
    let K : Context = c.args.indexed.now in
    let S = c.args.known.now.members in
    let first : Step g.row.W = c.args.first in
    let Wanted : Watched → Type 0 = HasFound S K first.intent first.from (IsPart first.intent) c.args.found.now in
    subst (λ (xs : List (Step g.row.W)). IsWalk S K Wanted xs c.args.found.now) (sym c.in_ok-steps.ensures.items) (walk_first c.requires)

pub last_to_try-requires : goal.last_to_try-requires
last_to_try-requires g c =
    let K : Context = c.args.indexed.now in
    let S = c.args.known.now.members in
    let first : Step g.row.W = c.args.first in
    let Wanted : Watched → Type 0 = HasFound S K first.intent first.from (IsPart first.intent) c.args.found.now in
    let walk = subst (λ (xs : List (Step g.row.W)). IsWalk S K Wanted xs c.loop-step.found) c.in-Some.ensures.items c.loop-step.invariant in
    let s = walk_step S K Wanted c.pop.new.self.items c.in-Some.step c.loop-step.found walk in
    (omega arith, (s.order, omega (arith, s.inside, s.below.at.family.wide)))

pub loop-step-smaller-in_default-last_to_try : goal.loop-step-smaller-in_default-last_to_try
loop-step-smaller-in_default-last_to_try g c =
    room_done c.args.indexed.now.width c.pop.new.self.items c.in-Some.step c.in-Some.ensures.items

pub loop-step-preserved-in_default-last_to_try : goal.loop-step-preserved-in_default-last_to_try
loop-step-preserved-in_default-last_to_try g c =
    let K : Context = c.args.indexed.now in
    let S = c.args.known.now.members in
    let first : Step g.row.W = c.args.first in
    let Wanted : Watched → Type 0 = HasFound S K first.intent first.from (IsPart first.intent) c.args.found.now in
    let walk = subst (λ (xs : List (Step g.row.W)). IsWalk S K Wanted xs c.loop-step.found) c.in-Some.ensures.items c.loop-step.invariant in
    walk_none S K Wanted c.pop.new.self.items c.in-Some.step c.loop-step.found walk
    (subst (λ (ws : List ℕ). NoneToTry c.in-Some.step.intent ws c.in-Some.step.from c.in-Some.step.end) c.deref.ensures.value
    c.in_default-last_to_try.ensures)

pub try_attribute-requires : goal.try_attribute-requires
try_attribute-requires g c =
    let K : Context = c.args.indexed.now in
    let S = c.args.known.now.members in
    let first : Step g.row.W = c.args.first in
    let Wanted : Watched → Type 0 = HasFound S K first.intent first.from (IsPart first.intent) c.args.found.now in
    let walk = subst (λ (xs : List (Step g.row.W)). IsWalk S K Wanted xs c.loop-step.found) c.in-Some.ensures.items c.loop-step.invariant in
    let s = walk_step S K Wanted c.pop.new.self.items c.in-Some.step c.loop-step.found walk in
    let last = subst (λ (ws : List ℕ). IsLastToTry c.in-Some.step.intent ws c.in-Some.step.from c.in-Some.step.end c.in-Some-last_to_try.i)
    c.deref.ensures.value c.in-Some-last_to_try.ensures in (
      omega arith,
      (
        omega arith,
        (
          omega (arith, c.width-width.ensures.words),
          (
            walk_trying S K Wanted c.pop.new.self.items c.in-Some.step c.loop-step.found walk last,
            (walk_lacks S K Wanted c.pop.new.self.items c.in-Some.step c.loop-step.found walk last, (s.extent, s.forced)),
          ),
        ),
      ),
    )

pub loop-step-smaller-in_default-below : goal.loop-step-smaller-in_default-below
loop-step-smaller-in_default-below g c =
    let K : Context = c.args.indexed.now in
    let S = c.args.known.now.members in
    let first : Step g.row.W = c.args.first in
    let Wanted : Watched → Type 0 = HasFound S K first.intent first.from (IsPart first.intent) c.args.found.now in
    let walk = subst (λ (xs : List (Step g.row.W)). IsWalk S K Wanted xs c.loop-step.found) c.in-Some.ensures.items c.loop-step.invariant in
    let last = subst (λ (ws : List ℕ). IsLastToTry c.in-Some.step.intent ws c.in-Some.step.from c.in-Some.step.end c.in-Some-last_to_try.i)
    c.deref.ensures.value c.in-Some-last_to_try.ensures in
    let tried = rw c.in_default-below.is at c.in_ok-below.ensures in
    room_tried K.width c.pop.new.self.items c.in-Some.step c.in-Some.ensures.items c.try_attribute.new.step c.in_ok-push-2.ensures.items
    tried.0.from tried.0.end last.at_least last.in_range
    (walk_step S K Wanted c.pop.new.self.items c.in-Some.step c.loop-step.found walk).inside

pub loop-step-preserved-in_default-below : goal.loop-step-preserved-in_default-below
loop-step-preserved-in_default-below g c =
    let K : Context = c.args.indexed.now in
    let S = c.args.known.now.members in
    let first : Step g.row.W = c.args.first in
    let Wanted : Watched → Type 0 = HasFound S K first.intent first.from (IsPart first.intent) c.args.found.now in
    let walk = subst (λ (xs : List (Step g.row.W)). IsWalk S K Wanted xs c.loop-step.found) c.in-Some.ensures.items c.loop-step.invariant in
    let last = subst (λ (ws : List ℕ). IsLastToTry c.in-Some.step.intent ws c.in-Some.step.from c.in-Some.step.end c.in-Some-last_to_try.i)
    c.deref.ensures.value c.in-Some-last_to_try.ensures in
    let tried = rw c.in_default-below.is at c.in_ok-below.ensures in
    subst (λ (xs : List (Step g.row.W)). IsWalk S K Wanted xs c.try_attribute.new.found) (sym c.in_ok-push-2.ensures.items)
    (walk_tried S K Wanted c.pop.new.self.items c.in-Some.step c.loop-step.found walk last c.try_attribute.new.found c.try_attribute.new.step
    tried)

pub loop-step-smaller : goal.loop-step-smaller
loop-step-smaller g c =
    let K : Context = c.args.indexed.now in
    let S = c.args.known.now.members in
    let first : Step g.row.W = c.args.first in
    let Wanted : Watched → Type 0 = HasFound S K first.intent first.from (IsPart first.intent) c.args.found.now in
    let walk = subst (λ (xs : List (Step g.row.W)). IsWalk S K Wanted xs c.loop-step.found) c.in-Some.ensures.items c.loop-step.invariant in
    let last = subst (λ (ws : List ℕ). IsLastToTry c.in-Some.step.intent ws c.in-Some.step.from c.in-Some.step.end c.in-Some-last_to_try.i)
    c.deref.ensures.value c.in-Some-last_to_try.ensures in
    let tried = rw c.in-Some-below.is at c.in_ok-below.ensures in
    room_deeper K.width c.pop.new.self.items c.in-Some.step c.in-Some.ensures.items c.try_attribute.new.step c.in_ok-push-2.ensures.items
    tried.0.from tried.0.end last.at_least last.in_range
    (walk_step S K Wanted c.pop.new.self.items c.in-Some.step c.loop-step.found walk).inside c.in-Some-below.below
    c.in_ok-push-3.ensures.items tried.2

pub loop-step-preserved : goal.loop-step-preserved
loop-step-preserved g c =
    let K : Context = c.args.indexed.now in
    let S = c.args.known.now.members in
    let first : Step g.row.W = c.args.first in
    let Wanted : Watched → Type 0 = HasFound S K first.intent first.from (IsPart first.intent) c.args.found.now in
    let walk = subst (λ (xs : List (Step g.row.W)). IsWalk S K Wanted xs c.loop-step.found) c.in-Some.ensures.items c.loop-step.invariant in
    let last = subst (λ (ws : List ℕ). IsLastToTry c.in-Some.step.intent ws c.in-Some.step.from c.in-Some.step.end c.in-Some-last_to_try.i)
    c.deref.ensures.value c.in-Some-last_to_try.ensures in
    let tried = rw c.in-Some-below.is at c.in_ok-below.ensures in
    let one = c.in_ok-push-2.ensures.items in
    subst (λ (xs : List (Step g.row.W)). IsWalk S K Wanted xs c.try_attribute.new.found)
    (sym (c.in_ok-push-3.ensures.items ∙ ap (λ (xs : List (Step g.row.W)). xs ++ c.in-Some-below.below ∷ []) one))
    (walk_below S K Wanted c.pop.new.self.items c.in-Some.step c.loop-step.found walk last c.try_attribute.new.found c.try_attribute.new.step
    c.in-Some-below.below tried)

pub returns : goal.returns
returns g c =
    let K : Context = c.args.indexed.now in
    let S = c.args.known.now.members in
    let first : Step g.row.W = c.args.first in
    walk_done S K (HasFound S K first.intent first.from (IsPart first.intent) c.args.found.now) c.loop-step.found c.loop-step.steps.items
    (omega (arith, c.in_default.ensures.cases.0, c.loop-step.steps.ok.0)) c.loop-step.invariant
