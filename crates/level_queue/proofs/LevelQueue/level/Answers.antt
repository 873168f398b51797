use Rattle.std.proofs.Common.{◌∙◌, List, length, refl, sym, ap, subst, true, ◌==◌, ◌≡◌}
use Rattle.std.proofs.lemmas.Bool.{false≢true}
use Rattle.std.specs.List.{list_all}
use Rattle.fca_model.specs.Sets.{size}
use Rattle.fca_model.specs.Implications.{Rule}
use Rattle.fca_model.specs.Questions.{open_questions}
use Rattle.level_queue.specs.Queue.{QueueModel}
use Rattle.level_queue.proofs.OpenLemmas.{kept_open, questions_size, is_nil, not_nil}
use Rattle.level_queue.proofs.LevelQueue.level.Goals as goal

pub returns-then-is_empty-clause-none : goal.returns-then-is_empty-clause-none
returns-then-is_empty-clause-none c =
    let opened = c.as_slice.ensures ∙ kept_open c.self.invariant.kept
    ∙ ap (λ (b : QueueModel). open_questions b.known b.context b.accepted) c.self.view_is in
    let none = is_nil c.as_slice.result.now (length c.as_slice.result.now) refl c.is_empty.result c.is_empty.ensures c.if-is_empty.true in
    (λ _. sym opened ∙ none, λ _. refl)

pub returns-else-is_empty-clause-none : goal.returns-else-is_empty-clause-none
returns-else-is_empty-clause-none c =
    let opened = c.as_slice.ensures ∙ kept_open c.self.invariant.kept
    ∙ ap (λ (b : QueueModel). open_questions b.known b.context b.accepted) c.self.view_is in (
      λ t. absurd (false≢true (sym t)),
      λ e. absurd (not_nil c.as_slice.result.now (length c.as_slice.result.now) refl c.is_empty.result c.is_empty.ensures
          c.if-is_empty.false (opened ∙ e)),
    )

pub returns-else-is_empty-clause-size : goal.returns-else-is_empty-clause-size
returns-else-is_empty-clause-size c =
    let a = c.self.inside in
    subst (λ (qs : List Rule). list_all (λ (q : Rule). size q.premise == a.level.size) qs ≡ true)
    (kept_open c.self.invariant.kept ∙ ap (λ (b : QueueModel). open_questions b.known b.context b.accepted) c.self.view_is)
    (questions_size a.rules.known a.rows a.level.size a.rules.accepted a.level.questions c.self.invariant.kept.queue)
