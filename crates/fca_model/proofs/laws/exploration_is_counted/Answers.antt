use Rattle.fca_model.specs.Exploration.{events_of}
use Rattle.fca_model.proofs.RunLemmas.{legal_events}
use Rattle.fca_model.proofs.CourseLemmas.{exploration_count}
use Rattle.fca_model.proofs.laws.exploration_is_counted.Goals as goal

pub returns : goal.returns
returns c = λ s H v l. exploration_count s v (events_of H) (legal_events s H l).0
