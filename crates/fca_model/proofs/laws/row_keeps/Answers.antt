use Rattle.fca_model.proofs.InvariantLemmas.{row_keeps_accepted, row_keeps_held}
use Rattle.fca_model.proofs.SurvivalLemmas.{closed_stays}
use Rattle.fca_model.proofs.laws.row_keeps.Goals as goal

pub returns : goal.returns
returns c = record {
  accepted = λ S K acc row h good. row_keeps_accepted S K acc h row good;
  held = λ S K acc row h good. row_keeps_held S K acc h row good;
  intents = closed_stays;
}
