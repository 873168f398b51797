use Rattle.expert_scripts.proofs.KnownLemmas.{full_text-read}
use Rattle.expert_scripts.proofs.laws.full_text_reads_back.Goals as goal

pub returns : goal.returns
returns c = full_text-read
