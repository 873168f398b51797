use Rattle.explore_state.specs.History.{state_of}
use Rattle.exploration_terms.proofs.RecordedLemmas.{leave_not_recorded}
use Rattle.explore_state.proofs.Explore.leave.Goals as goal

pub returns-clause-spare : goal.returns-clause-spare
returns-clause-spare c = λ room. c.apply.ensures.spare room (leave_not_recorded (state_of c.args.self.now) c.args.e)
