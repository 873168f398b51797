use Rattle.std.proofs.Common.{◌≡◌, ℕ, List, [], ◌∷◌, ◌++◌, ◌∙◌, refl, sym, ap, subst, arith}
use Rattle.fca_model.specs.Sets.{Set}
use Rattle.lectic_concepts.specs.Branches.{branch}
use Rattle.lectic_concepts.specs.Steps.{branch_of}
use Rattle.lectic_concepts.specs.declared.children.Step.{Step}
use Rattle.lectic_concepts.proofs.BranchLemmas.{branch_end}
use Rattle.lectic_concepts.proofs.RoomLemmas.{rooms_done, rooms_tried, rooms_deeper}
use Rattle.lectic_concepts.proofs.StepLemmas.{IsWalk, walk_first, walk_step, walk_own, walk_none, walk_whole, walk_below, walk_done}
use Rattle.lectic_concepts.proofs.tree.add_branch.Goals as goal

pub loop-step-init : goal.loop-step-init
loop-step-init g c =
    let first : Step g.row.W = c.args.first in
    let n : ℕ = first.rows.width in
    let old : List Set = c.args.all.now.items in
    let All : List Set = old ++ branch_of first first.from in
    let s = c.requires.step in
    let alone : branch_of first first.end ≡ first.intent ∷ [] =
    ap (branch first.rows first.intent) c.requires.whole
    ∙ branch_end first.rows first.intent (record { wide = s.wide; closed = s.closed }) in
    subst (λ (xs : List (Step g.row.W)). IsWalk n All xs c.push.new.self.items)
    (sym (c.in_ok-push-2.ensures.items ∙ ap (λ (xs : List (Step g.row.W)). xs ++ first ∷ []) c.in_ok-steps.ensures.items))
    (subst (λ (Xs : List Set). IsWalk n All (first ∷ []) Xs) (sym c.in_ok-push.ensures.items) (walk_first n old first s alone))

pub next_step-requires : goal.next_step-requires
next_step-requires g c =
    let first : Step g.row.W = c.args.first in
    let n : ℕ = first.rows.width in
    let All : List Set = c.args.all.now.items ++ branch_of first first.from in
    let steps : List (Step g.row.W) = c.pop.new.self.items in
    let walk = subst (λ (xs : List (Step g.row.W)). IsWalk n All xs c.loop-step.all.items) c.in-Some.ensures.items
    c.loop-step.invariant in (
      omega (arith, c.width.ensures.words),
      (
        omega (arith, c.width.ensures.words),
        (omega (arith, c.width.ensures.words), walk_own n All c.loop-step.all.items All steps c.in-Some.step walk),
      ),
    )

pub loop-step-preserved-in-End-1 : goal.loop-step-preserved-in-End-1
loop-step-preserved-in-End-1 g c =
    let first : Step g.row.W = c.args.first in
    let n : ℕ = first.rows.width in
    let All : List Set = c.args.all.now.items ++ branch_of first first.from in
    let steps : List (Step g.row.W) = c.pop.new.self.items in
    let walk = subst (λ (xs : List (Step g.row.W)). IsWalk n All xs c.loop-step.all.items) c.in-Some.ensures.items c.loop-step.invariant in
    walk_none n All c.loop-step.all.items c.next_step.new.all.items steps c.in-Some.step walk c.next_step.new.step
    (rw c.in-End.is at c.in_ok-next_step.ensures)

pub loop-step-smaller-in-End-1 : goal.loop-step-smaller-in-End-1
loop-step-smaller-in-End-1 g c =
    rooms_done c.args.first.rows.width (λ (s : Step g.row.W). s.from) (λ (s : Step g.row.W). s.end) c.pop.new.self.items c.in-Some.step
    c.in-Some.ensures.items

pub loop-step-smaller-in-Continue-branch-6 : goal.loop-step-smaller-in-Continue-branch-6
loop-step-smaller-in-Continue-branch-6 g c =
    let first : Step g.row.W = c.args.first in
    let n : ℕ = first.rows.width in
    let All : List Set = c.args.all.now.items ++ branch_of first first.from in
    let steps : List (Step g.row.W) = c.pop.new.self.items in
    let walk = subst (λ (xs : List (Step g.row.W)). IsWalk n All xs c.loop-step.all.items) c.in-Some.ensures.items c.loop-step.invariant in
    let d = rw c.in-WholeBranch.is at c.in_ok-next_step.ensures in
    rooms_tried n (λ (s : Step g.row.W). s.from) (λ (s : Step g.row.W). s.end) steps c.in-Some.step c.in-Some.ensures.items
    c.next_step.new.step c.in_ok-push-in-WholeBranch.ensures.items d.0.from refl (omega (arith, d.0.from, d.0.step.order)) d.0.less
    (walk_step n All c.loop-step.all.items c.next_step.new.all.items steps c.in-Some.step walk).inside

pub loop-step-preserved-in-Continue-branch-6 : goal.loop-step-preserved-in-Continue-branch-6
loop-step-preserved-in-Continue-branch-6 g c =
    let first : Step g.row.W = c.args.first in
    let n : ℕ = first.rows.width in
    let All : List Set = c.args.all.now.items ++ branch_of first first.from in
    let steps : List (Step g.row.W) = c.pop.new.self.items in
    let walk = subst (λ (xs : List (Step g.row.W)). IsWalk n All xs c.loop-step.all.items) c.in-Some.ensures.items c.loop-step.invariant in
    subst (λ (xs : List (Step g.row.W)). IsWalk n All xs c.next_step.new.all.items) (sym c.in_ok-push-in-WholeBranch.ensures.items)
    (walk_whole n All c.loop-step.all.items c.next_step.new.all.items steps c.in-Some.step walk c.next_step.new.step
    (rw c.in-WholeBranch.is at c.in_ok-next_step.ensures))

pub loop-step-smaller : goal.loop-step-smaller
loop-step-smaller g c =
    let first : Step g.row.W = c.args.first in
    let n : ℕ = first.rows.width in
    let All : List Set = c.args.all.now.items ++ branch_of first first.from in
    let steps : List (Step g.row.W) = c.pop.new.self.items in
    let walk = subst (λ (xs : List (Step g.row.W)). IsWalk n All xs c.loop-step.all.items) c.in-Some.ensures.items c.loop-step.invariant in
    let d = rw c.in-Below.is at c.in_ok-next_step.ensures in
    rooms_deeper n (λ (s : Step g.row.W). s.from) (λ (s : Step g.row.W). s.end) steps c.in-Some.step c.in-Some.ensures.items
    c.next_step.new.step c.in_ok-push-in-Below.ensures.items d.0.from refl (omega (arith, d.0.from, d.0.step.order)) d.0.less
    (walk_step n All c.loop-step.all.items c.next_step.new.all.items steps c.in-Some.step walk).inside
    c.in-Below.below c.in_ok-push-in-Below-2.ensures.items d.2

pub loop-step-preserved : goal.loop-step-preserved
loop-step-preserved g c =
    let first : Step g.row.W = c.args.first in
    let n : ℕ = first.rows.width in
    let All : List Set = c.args.all.now.items ++ branch_of first first.from in
    let steps : List (Step g.row.W) = c.pop.new.self.items in
    let walk = subst (λ (xs : List (Step g.row.W)). IsWalk n All xs c.loop-step.all.items) c.in-Some.ensures.items c.loop-step.invariant in
    subst (λ (xs : List (Step g.row.W)). IsWalk n All xs c.next_step.new.all.items)
    (sym (c.in_ok-push-in-Below-2.ensures.items ∙ ap
    (λ (xs : List (Step g.row.W)). xs ++ c.in-Below.below ∷ []) c.in_ok-push-in-Below.ensures.items))
    (walk_below n All c.loop-step.all.items c.next_step.new.all.items steps c.in-Some.step walk c.next_step.new.step c.in-Below.below
    (rw c.in-Below.is at c.in_ok-next_step.ensures))

pub returns : goal.returns
returns g c =
    let first : Step g.row.W = c.args.first in
    walk_done first.rows.width (c.args.all.now.items ++ branch_of first first.from) c.loop-step.all.items c.loop-step.steps.items
    (omega (arith, c.in_default.ensures.cases.0, c.loop-step.steps.ok.0)) c.loop-step.invariant
