use Rattle.std.proofs.Common.{◌∙◌, ap, subst, take, drop, length, ◌-◌}
use Rattle.fca_model.specs.Sets.{increasing}
use Rattle.fca_model.specs.Implications.{premises}
use Rattle.level_queue.specs.QuestionLists.{IsPlaceFor}
use Rattle.level_queue.proofs.OpenLemmas.{not_nil}
use Rattle.level_queue.proofs.InOneWordLemmas.{premises_from}
use Rattle.level_queue.proofs.question_list.QuestionList.first_from.Goals as goal

pub first_set-requires : goal.first_set-requires
first_set-requires c =
    let a = c.self.inside in
    ap increasing (premises_from a.questions.items a.in_one_word.items c.args.first c.deref.result.now c.deref.ensures.value
    (not_nil a.in_one_word.items a.in_one_word.len a.in_one_word.ok.0 c.is_empty.result c.is_empty.ensures c.if-not-is_empty.true)
    c.self.invariant)
    ∙ ap (λ questions. increasing (premises (drop c.args.first questions))) c.self.view_is ∙ c.requires.increasing

pub returns-then-width-le-ONE_WORD : goal.returns-then-width-le-ONE_WORD
returns-then-width-le-ONE_WORD c =
    let a = c.self.inside in
    let place = subst (λ P. IsPlaceFor P (take (length c.deref.result.now - c.args.first) (drop c.args.first c.deref.result.now))
    c.first_set.result) c.resize.ensures c.first_set.ensures in
    subst (λ sets. IsPlaceFor c.args.premise.now sets c.first_set.result)
    (premises_from a.questions.items a.in_one_word.items c.args.first c.deref.result.now c.deref.ensures.value
    (not_nil a.in_one_word.items a.in_one_word.len a.in_one_word.ok.0 c.is_empty.result c.is_empty.ensures c.if-not-is_empty.true)
    c.self.invariant
    ∙ ap (λ questions. premises (drop c.args.first questions)) c.self.view_is)
    place
