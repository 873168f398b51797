use Rattle.fca_model.specs.Exploration.{events_of}
use Rattle.fca_model.proofs.RunLemmas.{legal_events}
use Rattle.fca_model.proofs.CourseLemmas.{draw_done, run_done}
use Rattle.fca_model.proofs.laws.done_stays_done.Goals as goal

pub returns : goal.returns
returns c = record {
  draw = draw_done;
  context = λ s H v done l. let events = legal_events s H l in (run_done s v done (events_of H) events.0 events.1).0;
  accepted = λ s H v done l. let events = legal_events s H l in (run_done s v done (events_of H) events.0 events.1).1;
  done = λ s H v done l. let events = legal_events s H l in (run_done s v done (events_of H) events.0 events.1).2;
}
