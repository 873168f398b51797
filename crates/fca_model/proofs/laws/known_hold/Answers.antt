use Rattle.fca_model.proofs.ClosureLemmas.{known_hold}
use Rattle.fca_model.proofs.laws.known_hold.Goals as goal

pub returns : goal.returns
returns c = known_hold
