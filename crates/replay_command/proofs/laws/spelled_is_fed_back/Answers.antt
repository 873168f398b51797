use Rattle.replay_command.proofs.FedBackLemmas.{fed_back}
use Rattle.replay_command.proofs.laws.spelled_is_fed_back.Goals as goal

pub returns : goal.returns
returns c = fed_back
