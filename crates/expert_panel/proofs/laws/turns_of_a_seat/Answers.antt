use Rattle.expert_panel.proofs.CourseLemmas.{turns_of_seat, turns_between}
use Rattle.expert_panel.proofs.laws.turns_of_a_seat.Goals as goal

pub returns : goal.returns
returns c = record {
  no_row_dropped = λ o old new respecting most run free H legal i owns. turns_of_seat o old new respecting most run H legal i owns free;
  any = λ o old new respecting most run H legal i owns. turns_between o old new respecting most run H legal i owns;
}
