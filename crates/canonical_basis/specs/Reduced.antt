-- The context of a list of implications, and lists that are on the way to its basis.
use Rattle.std.specs.Prelude.{◌≡◌, Bool, true, not, ◌&&◌, ◌||◌, List, length, filter, ◌==◌}
use Rattle.std.specs.List.{list_all}
use Rattle.fca_model.specs.Sets.{Set, same, all_sets}
use Rattle.fca_model.specs.Context.{Context, closure, is_closed}
use Rattle.fca_model.specs.Implications.{Rule, respects, respects_all}
use Rattle.implication_closure.specs.Closing.{RuleList}

-- the context whose rows are all sets that respect the list
abbrev pub context_of : RuleList → Context
context_of J = record { width = J.width; rows = filter (respects_all J.members) (all_sets J.width) }

-- the conclusion is the closure of the premise
abbrev pub is_full : Context → Rule → Bool
is_full K i = (length i.premise == K.width) && same i.conclusion (closure K i.premise)

-- the premise of i respects j, or is its premise
abbrev pub is_apart : Rule → Rule → Bool
is_apart i j = same j.premise i.premise || respects i.premise j

-- The implications done and the rest of them together say what holds in the context; and what is done is reduced: no premise is
-- closed, and each respects all implications of another premise.
pub record IsReduced (K : Context) (done rest : List Rule) : Type 0 where
  pub full_done : list_all (is_full K) done ≡ true
  pub full_rest : list_all (is_full K) rest ≡ true
  pub proper : list_all (λ i. not (is_closed K i.premise)) done ≡ true
  pub apart_done : list_all (λ i. list_all (is_apart i) done) done ≡ true
  pub apart_rest : list_all (λ i. list_all (is_apart i) rest) done ≡ true
  pub complete : (T : Set) → length T ≡ K.width → respects_all done T ≡ true → respects_all rest T ≡ true → is_closed K T ≡ true
