use Rattle.basis_report.proofs.VerdictLemmas.{verdict_held, verdict_refuted}
use Rattle.basis_report.proofs.laws.verdict_is_right.Goals as goal

pub returns : goal.returns
returns c = record { held = verdict_held; refuted = verdict_refuted }
