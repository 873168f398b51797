use Rattle.fca_model.proofs.DoneLemmas.{member_among}
use Rattle.fca_model.proofs.laws.members_are_in_the_basis.Goals as goal

pub returns : goal.returns
returns c = member_among
