use Rattle.expert_panel.proofs.CourseLemmas.{draws_of_seat}
use Rattle.expert_panel.proofs.laws.draws_of_a_seat.Goals as goal

pub returns : goal.returns
returns c = λ o old new respecting most run H legal i owns. draws_of_seat o old new respecting most run H legal i owns
