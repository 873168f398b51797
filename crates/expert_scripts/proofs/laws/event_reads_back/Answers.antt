use Rattle.expert_scripts.proofs.EventLemmas.{event_of-event_text}
use Rattle.expert_scripts.proofs.laws.event_reads_back.Goals as goal

pub returns : goal.returns
returns c = event_of-event_text
