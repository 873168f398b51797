use Rattle.fca_model.proofs.ValidLemmas.{never_all_held}
use Rattle.fca_model.proofs.laws.never_all_held.Goals as goal

pub returns : goal.returns
returns c = never_all_held
