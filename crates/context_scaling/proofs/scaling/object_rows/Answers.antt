use Rattle.std.proofs.Common.{◌∙◌, length, sym, ap, arith}
use Rattle.value_tables.specs.Values.{object_at}
use Rattle.context_scaling.proofs.ScaleLemmas.{row_length}
use Rattle.context_scaling.proofs.scaling.object_rows.Goals as goal

pub push-requires : goal.push-requires
push-requires c = (
  omega arith,
  (
    omega arith,
    ap length c.object_row.ensures ∙ row_length c.args.plan.now (object_at c.args.values.now c.loop-g.g)
        ∙ sym c.loop-g.invariant.width,
  ),
)
