-- The states of the walk for the next level.
--
-- The walk looks at the sets that respect the list and agree with A before an attribute. It keeps those seen so far that are not closed and
-- no larger than a bound: a branch whose sets are larger is not entered.
use Rattle.std.specs.Prelude.{nat_le, ◌==◌, ◌⊎◌, ◌≡◌, ℕ, suc, ◌<◌, ◌≤◌, true, length, List, []}
use Rattle.std.specs.List.{list_all, list_any}
use Rattle.fca_model.specs.Sets.{Set, within, size}
use Rattle.fca_model.specs.Context.{Context}
use Rattle.fca_model.specs.Implications.{Rule, respects_all}
use Rattle.lectic_basis.specs.Trees.{before, up_to}
use Rattle.lectic_basis.specs.Watches.{Watched, IsFiled, IsGood}
use Rattle.next_level.specs.NextLevel.{IsLeastUnder, open_where}

-- A respects the list, all that are looked at contain it, and what does not concern A waits
pub record IsInside (K : Context) (A : Set) (from : ℕ) (F : Watched) : Type 0 where
  pub width : F.list.width ≡ K.width
  pub wide : length A ≡ K.width
  pub respecting : respects_all F.list.members A ≡ true
  pub least : IsLeastUnder F.list.members K.width A from
  pub inside : from ≤ K.width
  pub filed : IsFiled F.list.width F.list.members F.buckets
  pub good : IsGood F.list.members F.buckets A

-- A is to be visited, and then all that agree with it before attribute `from`
pub record IsVisit (K : Context) (A : Set) (from : ℕ) (F : Watched) (b : ℕ) (Ls : List Rule) : Type 0 where
  pub at : IsInside K A from F
  pub listed : Ls ≡ open_where F.list.members K b (before from A)

-- A was visited, and what agrees with it before attribute `from` and comes behind it is left
pub record IsBelow (K : Context) (A : Set) (from : ℕ) (F : Watched) (b : ℕ) (Ls : List Rule) : Type 0 where
  pub at : IsInside K A from F
  pub listed : Ls ≡ open_where F.list.members K b (up_to K.width A)

-- attribute i is to be tried below A, and all behind it were
pub record IsTrying (K : Context) (A : Set) (i : ℕ) (F : Watched) (b : ℕ) (Ls : List Rule) : Type 0 where
  pub at : IsInside K A i F
  pub listed : Ls ≡ open_where F.list.members K b (up_to (suc i) A)
  pub inside : i < K.width

-- all that agree with A before attribute i were visited, and each good set within A is good as it was
pub record HasListed (K : Context) (A : Set) (i : ℕ) (old new : Watched) (b : ℕ) (Ls : List Rule) : Type 0 where
  pub list : new.list ≡ old.list
  pub listed : Ls ≡ open_where new.list.members K b (up_to i A)
  pub filed : IsFiled new.list.width new.list.members new.buckets
  pub kept : (X : Set) → within X A ≡ true → IsGood old.list.members old.buckets X → IsGood new.list.members new.buckets X

-- while nothing is listed, nothing was before, and the bound stays
pub record IsSteady (b : ℕ) (Ls : List Rule) (c : ℕ) (Ms : List Rule) : Type 0 where
  pub empty : Ms ≡ [] → Ls ≡ []
  pub bound : Ms ≡ [] → c ≡ b

-- k is the least size of a premise, or the given number where there is no smaller one
pub record IsLeastSize (past : ℕ) (members : List Rule) (k : ℕ) : Type 0 where
  pub at_most : k ≤ past
  pub least : list_all (λ i. nat_le k (size i.premise)) members ≡ true
  pub reached : (k ≡ past) ⊎ (list_any (λ i. size i.premise == k) members ≡ true)
