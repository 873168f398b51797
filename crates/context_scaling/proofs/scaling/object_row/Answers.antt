use Rattle.std.proofs.Common.{◌≡◌, ◌∙◌, ◌<◌, ◌≤◌, List, length, take, get_or, sym, ap, arith, take_all}
use Rattle.value_tables.specs.Values.{object_at}
use Rattle.context_scaling.specs.Scaling.{PlanRecord, made_names}
use Rattle.context_scaling.proofs.ScaleLemmas.{names_within, row_length}
use Rattle.context_scaling.proofs.scaling.object_row.Goals as goal

pub put_record-requires : goal.put_record-requires
put_record-requires c =
    let plan = c.args.plan.now in
    let i = c.loop-planned.planned-index in
    let s = c.planned-item.result in
    let size = ap length c.records-planned-items.ensures in
    let below : i < length plan = omega (arith, c.loop-planned-test.true, size) in
    let is : s ≡ get_or plan i s = c.planned-item.is ∙ ap (λ (xs : List PlanRecord). get_or xs i s) c.records-planned-items.ensures in
    let marks = ap length c.loop-planned.invariant.marks ∙ row_length (take i plan) (object_at c.args.values.now c.args.g) in
    omega (arith, names_within plan i s below is, marks, c.loop-planned.invariant.width, c.requires.width)

pub finish-requires : goal.finish-requires
finish-requires c =
    let plan = c.args.plan.now in
    let i = c.loop-planned.planned-index in
    let size = ap length c.records-planned-items.ensures in
    let past : length plan ≤ i = omega (arith, c.loop-planned-test.false, size) in
    ap length c.loop-planned.invariant.marks
    ∙ row_length (take i plan) (object_at c.args.values.now c.args.g)
    ∙ ap (λ (xs : List PlanRecord). length (made_names xs)) (take_all i plan past)
    ∙ sym c.requires.width
    ∙ sym c.loop-planned.invariant.width
