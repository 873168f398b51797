use Rattle.std.proofs.Common.{◌∙◌, ap, sym, set}
use Rattle.fca_model.specs.Implications.{premises}
use Rattle.level_queue.proofs.InOneWordLemmas.{premises_met}
use Rattle.level_queue.proofs.question_list.QuestionList.narrow_at.Goals as goal

pub invariant_of-self : goal.invariant_of-self
invariant_of-self c some =
    let a = c.self.inside in
    c.self.invariant some ∙ sym (ap (λ met. premises (set a.questions.items c.args.place met)) c.narrow_question-met.ensures
    ∙ premises_met c.row.inside.whole a.questions.items c.args.place c.index.result.now c.index.ensures)
