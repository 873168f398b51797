use Rattle.fca_model.proofs.CountLemmas.{intents_and_accepted, refuting_adds_intent}
use Rattle.fca_model.proofs.laws.intents_are_counted.Goals as goal

pub returns : goal.returns
returns c = record { bounded = intents_and_accepted; added = refuting_adds_intent }
