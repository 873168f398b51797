use Rattle.std.proofs.Common.{◌∙◌, length, get_or, false, ap, arith}
use Rattle.fca_model.specs.Sets.{Set}
use Rattle.context_reduce.proofs.ColumnLemmas.{length-at_least, at_least_at, length-order, order_at}
use Rattle.context_reduce.proofs.columns.is_within.Goals as goal

pub bounds-order-m : goal.bounds-order-m
bounds-order-m c = let e = length-order c.args.rows.now c.args.order.now c.requires.order in omega (arith, e, c.requires.first)

pub has-requires : goal.has-requires
has-requires c =
    let K = c.args.rows.now in
    let at = order_at K c.args.order.now c.args.m c.index-order-m.result c.requires.order c.requires.first c.index-order-m.is in
    let e = ap length at ∙ length-at_least K c.args.m in
    omega (arith, e, c.requires.second)

pub returns : goal.returns
returns c =
    let K = c.args.rows.now in
    let at = order_at K c.args.order.now c.args.m c.index-order-m.result c.requires.order c.requires.first c.index-order-m.is in
    c.has.ensures ∙ ap (λ (Z : Set). get_or Z c.args.p false) at ∙ at_least_at K c.args.m c.args.p c.requires.second
