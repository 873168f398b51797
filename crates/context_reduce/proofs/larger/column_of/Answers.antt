use Rattle.std.proofs.Common.{[], get_or, false, arith}
use Rattle.fca_model.specs.Sets.{Set}
use Rattle.context_reduce.proofs.ColumnLemmas.{built_map}
use Rattle.context_reduce.proofs.larger.column_of.Goals as goal

pub returns : goal.returns
returns g c = built_map (λ (row : Set). get_or row c.args.m false) c.args.rows.now [] c.loop-i.i c.loop-i.column c.loop-i.invariant
    (omega (arith, c.loop-i-test.false, c.loop-i.auto.i-end))
