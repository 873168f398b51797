use Rattle.oracle_expert.proofs.CountLemmas.{oracle_turns, oracle_few, few_dropped, call_turns}
use Rattle.oracle_expert.proofs.laws.turns_of_an_oracle.Goals as goal

pub returns : goal.returns
returns c = record { bound = oracle_turns; drops = few_dropped; few = oracle_few; any = call_turns }
