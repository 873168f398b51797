use Rattle.std.proofs.Common.{◌∙◌, ap, sym, subst}
use Rattle.fca_model.specs.Implications.{premises}
use Rattle.level_queue.specs.QuestionLists.{IsPlaceFor}
use Rattle.level_queue.proofs.PlaceLemmas.{stands, rule_at, rule_there}
use Rattle.level_queue.proofs.questions.OpenQuestions.place_of.Goals as goal

pub returns-then-is_question_at-clause-found : goal.returns-then-is_question_at-clause-found
returns-then-is_question_at-clause-found c = rule_at c.args.self.now c.first_from-place.result c.args.question.now
    (ap (stands c.args.question.now c.first_from-place.result) (sym c.as_slice.ensures) ∙ sym c.is_question_at.ensures ∙ c.if-is_question_at.true)

pub returns-else-is_question_at-clause-there : goal.returns-else-is_question_at-clause-there
returns-else-is_question_at-clause-there c among =
    let q = c.args.question.now in
    let n = c.first_from-place.result in
    absurd (rule_there c.args.self.now n q c.requires
    (subst (λ questions. IsPlaceFor q.premise (premises questions) n) c.self.view_is c.first_from-place.ensures) among
    (ap (stands q n) (sym c.as_slice.ensures) ∙ sym c.is_question_at.ensures ∙ c.if-is_question_at.false))
