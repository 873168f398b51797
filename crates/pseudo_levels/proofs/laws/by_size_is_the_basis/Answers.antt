use Rattle.pseudo_levels.proofs.LeastLemmas.{by_size_members, by_size_length}
use Rattle.pseudo_levels.proofs.laws.by_size_is_the_basis.Goals as goal

pub returns : goal.returns
returns c = record { members = by_size_members; each_once = by_size_length }
