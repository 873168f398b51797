-- What a basis is for: it says all that holds in the context and no more, and no list that says the same is shorter.
use Rattle.std.specs.Prelude.{◌≡◌, ◌≤◌, true, List, length}
use Rattle.std.specs.List.{list_all}
use Rattle.fca_model.specs.Context.{Context}
use Rattle.fca_model.specs.Implications.{Rule, holds, follows, equivalent}

-- each member holds; what holds is what follows; and no equivalent list has fewer members
pub record IsLeastBasis (K : Context) (J : List Rule) : Type 0 where
  pub sound : list_all (holds K) J ≡ true
  pub complete : (i : Rule) → length i.premise ≡ K.width → length i.conclusion ≡ K.width → holds K i ≡ follows K.width J i
  pub least : (L : List Rule) → equivalent K.width L J ≡ true → length J ≤ length L
