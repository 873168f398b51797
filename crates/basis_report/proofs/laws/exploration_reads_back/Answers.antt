use Rattle.basis_report.proofs.SpelledLemmas.{spelled-explore_text}
use Rattle.basis_report.proofs.laws.exploration_reads_back.Goals as goal

pub returns : goal.returns
returns c = spelled-explore_text
