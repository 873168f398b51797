use Rattle.std.proofs.Common.{◌∙◌, arith}
use Rattle.std.proofs.lemmas.List.{take_all}
use Rattle.fca_model.proofs.ListLemmas.{copied_more}
use Rattle.implication_closure.proofs.WidthLemmas.{member_wide}
use Rattle.implication_closure.proofs.resize_implications.Goals as goal

pub resize_implication-requires : goal.resize_implication-requires
resize_implication-requires g c =
    let wide = member_wide c.args.implications.now c.loop-implication.implication-index c.implication-item.result
    c.loop-implication-test.true c.implication-item.is c.args.width c.requires.even in
    omega (arith, wide.0, wide.1, c.requires.fits, c.requires.words, c.requires.from_words)

pub loop-implication-preserved : goal.loop-implication-preserved
loop-implication-preserved g c = copied_more c.args.implications.now c.loop-implication.implication-index c.implication-item.result
    c.loop-implication-test.true c.implication-item.is c.resize_implication.result c.loop-implication.all.items _
    c.resize_implication.ensures c.loop-implication.invariant c.in_ok-push.ensures.items

pub returns : goal.returns
returns g c = c.loop-implication.invariant ∙ take_all c.loop-implication.implication-index c.args.implications.now
    c.loop-implication-test.false
