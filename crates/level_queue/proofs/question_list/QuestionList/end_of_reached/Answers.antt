use Rattle.std.proofs.Common.{◌≡◌, ◌∙◌, ap, subst, false}
use Rattle.std.specs.Prelude.{IfSome}
use Rattle.std.specs.List.{AllWithin}
use Rattle.fca_model.specs.Sets.{within}
use Rattle.fca_model.specs.Implications.{premises}
use Rattle.level_queue.proofs.OpenLemmas.{not_nil}
use Rattle.level_queue.proofs.PlaceLemmas.{of_questions}
use Rattle.level_queue.proofs.question_list.QuestionList.end_of_reached.Goals as goal

pub returns-then-not-is_empty-clause-passed : goal.returns-then-not-is_empty-clause-passed
returns-then-not-is_empty-clause-passed c =
    let a = c.self.inside in
    let sets : c.deref.result.now ≡ premises c.args.self.now =
    c.deref.ensures.value
    ∙ c.self.invariant (not_nil a.in_one_word.items a.in_one_word.len a.in_one_word.ok.0 c.is_empty.result c.is_empty.ensures
    c.if-not-is_empty.true)
    ∙ ap premises c.self.view_is in
    let row = subst (λ o. IfSome o (λ r. r ≡ c.row.inside.whole)) c.in-Some.is c.row.invariant ∙ c.row.view_is in
    of_questions (λ A. within A c.args.row.now) false c.args.self.now c.end_of_sets.result c.args.end
    (subst (λ As. AllWithin (λ A. within A c.args.row.now ≡ false) As c.end_of_sets.result c.args.end) sets
    (subst (λ r. AllWithin (λ A. within A r ≡ false) c.deref.result.now c.end_of_sets.result c.args.end) row c.end_of_sets.ensures.passed))
