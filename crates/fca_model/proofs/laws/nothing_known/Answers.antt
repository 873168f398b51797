use Rattle.fca_model.proofs.PseudoLemmas.{pseudo_intents, basis_classical}
use Rattle.fca_model.proofs.laws.nothing_known.Goals as goal

pub returns : goal.returns
returns c = record { pseudo_intents = pseudo_intents; basis = basis_classical }
