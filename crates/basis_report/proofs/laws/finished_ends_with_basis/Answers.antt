use Rattle.basis_report.proofs.OrderLemmas.{finished_basis, finished_text}
use Rattle.basis_report.proofs.laws.finished_ends_with_basis.Goals as goal

pub returns : goal.returns
returns c = record { section = finished_basis; text = finished_text }
