use Rattle.oracle_expert.proofs.IntentLemmas.{intents-mutual, basis-intents, intents-itself, part_closed}
use Rattle.oracle_expert.proofs.laws.rows_decide_intents.Goals as goal

pub returns : goal.returns
returns c = record { one_another = intents-mutual; basis = basis-intents; itself = intents-itself; part = part_closed }
