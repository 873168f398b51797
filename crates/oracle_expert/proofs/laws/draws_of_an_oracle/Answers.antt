use Rattle.oracle_expert.proofs.DrawLemmas.{draws_apart}
use Rattle.oracle_expert.proofs.laws.draws_of_an_oracle.Goals as goal

pub returns : goal.returns
returns c = draws_apart
