use Rattle.std.proofs.Common.{◌∙◌, cond, sym, ap}
use Rattle.fca_model.specs.Sets.{Set, meet}
use Rattle.context_reduce.proofs.BlockLemmas.{larger_more}
use Rattle.context_reduce.proofs.larger.meet_with_larger.Goals as goal
use Rattle.context_reduce.proofs.larger.meet_with_larger.Goals.{then-is_strictly_within, else-is_strictly_within}

pub loop-row-preserved : goal.loop-row-preserved
loop-row-preserved g c =
    let row : Set = c.row-item.result in
    let M : Set = c.loop-row.met in
    larger_more c.args.set.now c.args.start.now M c.if-is_strictly_within.met c.args.rows.now c.loop-row.row-index row c.loop-row-test.true
    c.row-item.is c.loop-row.invariant
    (elim c.if-is_strictly_within.branch [
      | then-is_strictly_within w ↦ w.met-is ∙ w.meet-met.ensures
          ∙ ap (λ b. cond b (meet M row) M) (sym w.if-is_strictly_within.true ∙ c.is_strictly_within.ensures)
      | else-is_strictly_within w ↦ w.met-is ∙ ap (λ b. cond b (meet M row) M)
          (sym w.if-is_strictly_within.false ∙ c.is_strictly_within.ensures)
    ])
