use Rattle.fca_model.proofs.InvariantLemmas.{draw_gives_held}
use Rattle.fca_model.proofs.laws.open_may_be_held.Goals as goal

pub returns : goal.returns
returns c = draw_gives_held
