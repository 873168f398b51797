use Rattle.fca_model.proofs.InvariantLemmas.{accepted_smallest}
use Rattle.fca_model.proofs.laws.accepted_smallest.Goals as goal

pub returns : goal.returns
returns c = accepted_smallest
