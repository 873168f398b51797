use Rattle.std.proofs.Common.{◌∙◌, ap, sym}
use Rattle.fca_model.specs.Implications.{premises}
use Rattle.level_queue.proofs.OpenLemmas.{not_nil}
use Rattle.level_queue.proofs.InOneWordLemmas.{premises_moved}
use Rattle.level_queue.proofs.question_list.QuestionList.copy_within.Goals as goal

pub invariant_of-self : goal.invariant_of-self
invariant_of-self c _ =
    let a = c.self.inside in
    c.copy_within-then-not-is_empty.ensures.items
    ∙ premises_moved a.questions.items a.in_one_word.items c.args.first c.args.end c.args.place
    (not_nil a.in_one_word.items a.in_one_word.len a.in_one_word.ok.0 c.is_empty.result c.is_empty.ensures c.if-not-is_empty.true)
    c.self.invariant
    ∙ sym (ap premises c.copy_within.ensures.items)
