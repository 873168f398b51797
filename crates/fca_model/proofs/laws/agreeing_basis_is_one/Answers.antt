use Rattle.fca_model.proofs.AgreeLemmas.{agreeing_basis}
use Rattle.fca_model.proofs.laws.agreeing_basis_is_one.Goals as goal

pub returns : goal.returns
returns c = agreeing_basis
