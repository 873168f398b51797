use Rattle.std.proofs.Common.{List, [], ◌∷◌, ◌++◌, ◌∙◌, sym, ap, subst, arith}
use Rattle.fca_model.specs.Sets.{Set}
use Rattle.fca_model.specs.Context.{Context}
use Rattle.lectic_concepts.specs.Branches.{branch}
use Rattle.concept_walk.specs.declared.steps.Step.{Step}
use Rattle.concept_walk.proofs.StepLemmas.{IsWalk, walk_begin, walk_step, walk_none, walk_whole, walk_below, room_tried, room_deeper}
use Rattle.concept_walk.proofs.branch.gather_branch.Goals as goal

pub loop-step-init : goal.loop-step-init
loop-step-init g c =
    let K : Context = c.args.crosses.now in
    let A : Set = c.args.node.now.intent.now in
    let step : Step g.row.W = c.in_ok-first_step.field-0 in
    let entered = rw c.in-Some.is at c.in_ok-candidates.ensures in
    walk_begin K A c.args.node.now.from c.in-Some.candidates.end c.args.gathering.now c.enter.new.gathering c.push.new.self.items step
    (c.in_ok-push.ensures.items ∙ ap (λ (xs : List (Step g.row.W)). xs ++ step ∷ []) c.new-steps.ensures.items) c.in_ok-first_step.ensures
    entered.2

pub loop-step-preserved-in_ok-put_back-in-End : goal.loop-step-preserved-in_ok-put_back-in-End
loop-step-preserved-in_ok-put_back-in-End g c =
    let K : Context = c.args.crosses.now in
    let All : List Set = branch K c.args.node.now.intent.now c.args.node.now.from in
    let steps : List (Step g.row.W) = c.pop.new.self.items in
    let walk = subst (λ (xs : List (Step g.row.W)). IsWalk K All c.args.gathering.now c.loop-step.gathering xs) c.in-Some-pop.ensures.items
    c.loop-step.invariant in
    walk_none K All c.args.gathering.now c.loop-step.gathering c.next_step.new.gathering steps c.in-Some-pop.step walk
    (rw c.in-End.is at c.in_ok-next_step.ensures)

pub loop-step-smaller-in_ok-push-in-WholeBranch : goal.loop-step-smaller-in_ok-push-in-WholeBranch
loop-step-smaller-in_ok-push-in-WholeBranch g c =
    let K : Context = c.args.crosses.now in
    let All : List Set = branch K c.args.node.now.intent.now c.args.node.now.from in
    let steps : List (Step g.row.W) = c.pop.new.self.items in
    let walk = subst (λ (xs : List (Step g.row.W)). IsWalk K All c.args.gathering.now c.loop-step.gathering xs) c.in-Some-pop.ensures.items
    c.loop-step.invariant in
    let descent = rw c.in-WholeBranch.is at c.in_ok-next_step.ensures in
    room_tried K.width steps c.in-Some-pop.step c.in-Some-pop.ensures.items c.next_step.new.step c.in_ok-push-in-WholeBranch.ensures.items descent.0.from
    (omega (arith, descent.0.from, descent.0.step.order)) descent.0.less
    (walk_step K All c.args.gathering.now c.loop-step.gathering c.next_step.new.gathering steps c.in-Some-pop.step walk).candidates.inside

pub loop-step-preserved-in_ok-push-in-WholeBranch : goal.loop-step-preserved-in_ok-push-in-WholeBranch
loop-step-preserved-in_ok-push-in-WholeBranch g c =
    let K : Context = c.args.crosses.now in
    let All : List Set = branch K c.args.node.now.intent.now c.args.node.now.from in
    let steps : List (Step g.row.W) = c.pop.new.self.items in
    let walk = subst (λ (xs : List (Step g.row.W)). IsWalk K All c.args.gathering.now c.loop-step.gathering xs) c.in-Some-pop.ensures.items
    c.loop-step.invariant in
    subst (λ (xs : List (Step g.row.W)). IsWalk K All c.args.gathering.now c.next_step.new.gathering xs) (sym c.in_ok-push-in-WholeBranch.ensures.items)
    (walk_whole K All c.args.gathering.now c.loop-step.gathering c.next_step.new.gathering steps c.in-Some-pop.step walk c.next_step.new.step
    (rw c.in-WholeBranch.is at c.in_ok-next_step.ensures))

pub loop-step-smaller : goal.loop-step-smaller
loop-step-smaller g c =
    let K : Context = c.args.crosses.now in
    let All : List Set = branch K c.args.node.now.intent.now c.args.node.now.from in
    let steps : List (Step g.row.W) = c.pop.new.self.items in
    let walk = subst (λ (xs : List (Step g.row.W)). IsWalk K All c.args.gathering.now c.loop-step.gathering xs) c.in-Some-pop.ensures.items
    c.loop-step.invariant in
    let descent = rw c.in-Below.is at c.in_ok-next_step.ensures in
    room_deeper K.width steps c.in-Some-pop.step c.in-Some-pop.ensures.items c.next_step.new.step c.in_ok-push-in-Below.ensures.items descent.0.from
    (omega (arith, descent.0.from, descent.0.step.order)) descent.0.less
    (walk_step K All c.args.gathering.now c.loop-step.gathering c.next_step.new.gathering steps c.in-Some-pop.step walk).candidates.inside c.in-Below.deeper
    c.in_ok-push-in-Below-2.ensures.items descent.2

pub loop-step-preserved : goal.loop-step-preserved
loop-step-preserved g c =
    let K : Context = c.args.crosses.now in
    let All : List Set = branch K c.args.node.now.intent.now c.args.node.now.from in
    let steps : List (Step g.row.W) = c.pop.new.self.items in
    let walk = subst (λ (xs : List (Step g.row.W)). IsWalk K All c.args.gathering.now c.loop-step.gathering xs) c.in-Some-pop.ensures.items
    c.loop-step.invariant in
    subst (λ (xs : List (Step g.row.W)). IsWalk K All c.args.gathering.now c.next_step.new.gathering xs)
    (sym (c.in_ok-push-in-Below-2.ensures.items ∙ ap
    (λ (xs : List (Step g.row.W)). xs ++ c.in-Below.deeper ∷ []) c.in_ok-push-in-Below.ensures.items))
    (walk_below K All c.args.gathering.now c.loop-step.gathering c.next_step.new.gathering steps c.in-Some-pop.step walk c.next_step.new.step
    c.in-Below.deeper (rw c.in-Below.is at c.in_ok-next_step.ensures))
