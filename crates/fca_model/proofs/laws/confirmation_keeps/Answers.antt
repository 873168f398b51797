use Rattle.fca_model.proofs.InvariantLemmas.{held_member, confirm_keeps_accepted, confirm_keeps_held}
use Rattle.fca_model.proofs.laws.confirmation_keeps.Goals as goal

pub returns : goal.returns
returns c = record {
  member = λ S K acc q h. held_member S K acc h q;
  accepted = λ S K acc q h. confirm_keeps_accepted S K acc h q;
  held = λ S K acc q other h. confirm_keeps_held S K acc h q other;
}
