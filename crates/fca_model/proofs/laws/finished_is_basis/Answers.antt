use Rattle.fca_model.proofs.DoneLemmas.{accepted_members, accepted_length, accepted_sorted, accepted_hold, accepted_complete}
use Rattle.fca_model.proofs.DoneLemmas.{accepted_least}
use Rattle.fca_model.proofs.laws.finished_is_basis.Goals as goal

pub returns : goal.returns
returns c = record {
  members = accepted_members;
  each_once = accepted_length;
  in_order = accepted_sorted;
  holds = accepted_hold;
  follows = accepted_complete;
  least = accepted_least;
}
