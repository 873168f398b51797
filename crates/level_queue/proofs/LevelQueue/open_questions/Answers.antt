use Rattle.std.proofs.Common.{ap, ◌∙◌}
use Rattle.fca_model.specs.Questions.{open_questions}
use Rattle.level_queue.specs.Queue.{QueueModel}
use Rattle.level_queue.proofs.OpenLemmas.{kept_open}
use Rattle.level_queue.proofs.LevelQueue.open_questions.Goals as goal

pub returns : goal.returns
returns c = c.as_slice.ensures ∙ kept_open c.self.invariant.kept
    ∙ ap (λ (b : QueueModel). open_questions b.known b.context b.accepted) c.self.view_is
