use Rattle.std.proofs.Common.{◌∙◌, ap, sym, arith}
use Rattle.std.proofs.lemmas.List.{take_all}
use Rattle.fca_model.specs.Implications.{premises}
use Rattle.level_queue.proofs.InOneWordLemmas.{premise_fits, premises_more}
use Rattle.level_queue.proofs.question_list.premises_in_one_word.Goals as goal

pub resize-requires : goal.resize-requires
resize-requires c =
    let fits = premise_fits c.args.questions.now c.loop-question.question-index c.question-item.result
    (sym c.fit_one_word.ensures ∙ c.if-not-fit_one_word.false) c.loop-question-test.true c.question-item.is in
    omega (arith, fits)

pub loop-question-preserved : goal.loop-question-preserved
loop-question-preserved c =
    premises_more c.args.questions.now c.loop-question.question-index c.question-item.result c.resize.result c.loop-question.sets.items _
    c.loop-question-test.true c.question-item.is c.resize.ensures c.loop-question.invariant c.in_ok-push.ensures.items

pub returns : goal.returns
returns c _ = c.loop-question.invariant ∙ ap premises
    (take_all c.loop-question.question-index c.args.questions.now c.loop-question-test.false)
