use Rattle.std.proofs.Common.{◌≡◌, ◌∙◌, ◌<◌, ◌≤◌, ◌+◌, ℕ, List, length, take, get_or, ap, arith, length-take, get_or-take}
use Rattle.context_scaling.specs.Scaling.{PlanRecord, made_names, names_of}
use Rattle.context_scaling.proofs.ScaleLemmas.{names_within, values_names}
use Rattle.std.proofs.lemmas.List.Folds.{length-flat_map-take}
use Rattle.context_scaling.specs.Back.{no_plan_record}
use Rattle.context_scaling.proofs.back.begin_of.Goals as goal
use Rattle.context_scaling.proofs.back.begin_of.Goals.{After-planned-item}

-- the names of this record stand within all
room : (c : goal.After-planned-item) → c.loop-planned.begin + length (names_of c.planned-item.result) ≤ c.args.width
room c =
    let plan = c.args.plan.now in
    let i = c.loop-planned.planned-index in
    let s = c.planned-item.result in
    let size = ap (λ (xs : List PlanRecord). length (take c.args.k xs)) c.records.ensures ∙ length-take c.args.k plan in
    let before : i < c.args.k = omega (arith, c.loop-planned-test.true, size) in
    let below : i < length plan = omega (arith, c.loop-planned-test.true, size) in
    let is : s ≡ get_or plan i s = c.planned-item.is ∙ ap (λ (xs : List PlanRecord). get_or (take c.args.k xs) i s) c.records.ensures
    ∙ get_or-take c.args.k plan i s before in
    omega (arith, names_within plan i s below is, c.loop-planned.invariant, c.requires.width)

pub width_of-begin-requires : goal.width_of-begin-requires
width_of-begin-requires c = omega (arith, room c, values_names c.planned-item.result, c.ranges.width.fits)

pub overflow_add-begin : goal.overflow_add-begin
overflow_add-begin c = omega (arith, room (goal.at.overflow_add-begin c).After-planned-item, c.width_of-begin.ensures, c.ranges.width.fits)

pub overflow_cast-result : goal.overflow_cast-result
overflow_cast-result c =
    let plan = c.args.plan.now in
    let i = c.loop-planned.planned-index in
    let size = ap (λ (xs : List PlanRecord). length (take c.args.k xs)) c.records.ensures ∙ length-take c.args.k plan in
    let below : i < length plan = omega (arith, c.loop-planned.auto.planned-index-end, size, c.requires.record) in
    omega (arith, length-flat_map-take names_of plan i no_plan_record below, c.loop-planned.invariant, c.requires.width, c.ranges.width.fits)

pub returns-clause-room : goal.returns-clause-room
returns-clause-room c =
    let plan = c.args.plan.now in
    let i = c.loop-planned.planned-index in
    let size = ap (λ (xs : List PlanRecord). length (take c.args.k xs)) c.records.ensures ∙ length-take c.args.k plan in
    let same : i ≡ c.args.k = omega (arith, c.loop-planned.auto.planned-index-end, c.loop-planned-test.false, size, c.requires.record) in
    let begin = c.loop-planned.invariant ∙ ap (λ (n : ℕ). length (made_names (take n plan))) same in
    omega (arith, length-flat_map-take names_of plan c.args.k no_plan_record c.requires.record, begin, c.requires.width)
