use Rattle.std.proofs.Common.{◌∙◌, ◌+◌, ◌*◌, List, filter, fold, sym, ap, arith}
use Rattle.fca_model.specs.Sets.{Set, meet, strictly_within}
use Rattle.fca_model.specs.Context.{Context}
use Rattle.context_reduce.specs.Blocks.{row_block}
use Rattle.context_reduce.proofs.BlockLemmas.{block_at, block_wide, meet_more, meet_skips, meet_settled}
use Rattle.context_reduce.proofs.larger.meet_of_strictly_larger.Goals as goal
use Rattle.context_reduce.proofs.larger.meet_of_strictly_larger.Goals.{then-may_contain+else-within, else-may_contain}

pub may_contain-requires : goal.may_contain-requires
may_contain-requires g c =
    let wide = block_wide c.args.rows.now c.args.blocks.now c.requires.blocks c.loop-k.k c.index-blocks-k.result c.loop-k-test.true
    c.index-blocks-k.is in
    (omega (arith, c.width.ensures.words), omega (arith, wide, c.requires.wide))

pub returns-then-within : goal.returns-then-within
returns-then-within g c =
    let K : Context = c.args.rows.now in
    let X : Set = c.args.set.now in
    let N : Set = c.meet_with_larger-met.result in
    meet_settled X K ((c.loop-k.k + 1) * 256) N
    (meet_more X K c.loop-k.k c.loop-k.met N c.loop-k.invariant
    (c.meet_with_larger-met.ensures ∙ ap (λ (Rs : List Set). fold meet c.loop-k.met (filter (strictly_within X) Rs)) c.row_block.ensures.rows))
    (sym c.within.ensures ∙ c.if-within.true)

pub loop-k-preserved : goal.loop-k-preserved
loop-k-preserved g c =
    let K : Context = c.args.rows.now in
    let X : Set = c.args.set.now in
    let M : Set = c.loop-k.met in
    elim c.if-may_contain.branch [
      | then-may_contain+else-within w ↦
          w.met-is ∙ meet_more X K c.loop-k.k M w.meet_with_larger-met.result c.loop-k.invariant
          (w.meet_with_larger-met.ensures ∙ ap (λ (Rs : List Set). fold meet M (filter (strictly_within X) Rs)) w.row_block.ensures.rows)
      | else-may_contain w ↦
          w.met-is ∙ meet_skips X K c.loop-k.k M c.loop-k.invariant
          (c.may_contain.ensures (row_block K c.loop-k.k)
          (block_at K c.args.blocks.now c.requires.blocks c.loop-k.k c.index-blocks-k.result c.loop-k-test.true c.index-blocks-k.is)
          w.if-may_contain.false)
    ]
