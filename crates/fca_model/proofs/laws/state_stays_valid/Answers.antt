use Rattle.fca_model.proofs.ValidLemmas.{opening_valid, next_valid}
use Rattle.fca_model.proofs.RunLemmas.{legal_valid}
use Rattle.fca_model.proofs.CourseLemmas.{run_settings, run_width}
use Rattle.fca_model.proofs.laws.state_stays_valid.Goals as goal

pub returns : goal.returns
returns c = record { opening = opening_valid; event = next_valid; history = legal_valid; settings = run_settings; width = run_width }
