use Rattle.std.proofs.Common.{subst}
use Rattle.fca_model.specs.Invariant.{IsAccepted}
use Rattle.level_queue.specs.Queue.{QueueModel}
use Rattle.level_queue.proofs.OpenLemmas.{kept_accepted}
use Rattle.level_queue.proofs.LevelQueue.accepted.Goals as goal

pub returns-clause-sound : goal.returns-clause-sound
returns-clause-sound c = subst (λ (b : QueueModel). IsAccepted b.known b.context b.accepted) c.self.view_is (kept_accepted c.self.invariant.kept)
