use Rattle.fca_model.proofs.PseudoLemmas.{closed_by_respecting}
use Rattle.fca_model.proofs.laws.intents_respect.Goals as goal

pub returns : goal.returns
returns c = closed_by_respecting
