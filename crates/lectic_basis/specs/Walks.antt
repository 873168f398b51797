-- The states of the walk through the tree.
--
-- A walk below a set A looks at the sets of the family that agree with A before an attribute, and the members found so far are those
-- whose premise comes before them. So what a set asks for is one fact, that all sets below it contain it, and the members that wait.
use Rattle.std.specs.Prelude.{◌≡◌, ◌<◌, ◌≤◌, ℕ, suc, true, false, List, slice_index_or}
use Rattle.std.specs.List.{list_all}
use Rattle.fca_model.specs.Sets.{Set, within}
use Rattle.fca_model.specs.Context.{Context}
use Rattle.fca_model.specs.Implications.{Rule, holds}
use Rattle.lectic_basis.specs.Trees.{InFamily, IsLeastFrom, IsLeastBehind, before, up_to, found_where}
use Rattle.lectic_basis.specs.Watches.{Watched, IsFiled, IsGood}

-- A is a set of the family; each member waits for an attribute outside it, or has its conclusion within it
pub record IsAt (S : List Rule) (K : Context) (A : Set) (from : ℕ) (F : Watched) : Type 0 where
  pub holds : list_all (holds K) S ≡ true
  pub family : InFamily S K A
  pub inside : from ≤ K.width
  pub filed : IsFiled F.list.width F.list.members F.buckets
  pub good : IsGood F.list.members F.buckets A

-- A is to be visited, and then all that agree with it before attribute `from`; A was entered by the attribute before
pub record IsVisit (S : List Rule) (K : Context) (A : Set) (from : ℕ) (F : Watched) : Type 0 where
  pub at : IsAt S K A from F
  pub least : IsLeastFrom S K A from
  pub found : F.list ≡ found_where S K (before from A)
  pub entered : (k : ℕ) → from ≡ suc k → slice_index_or A k false ≡ true

-- the intent A was visited, and what agrees with it before attribute `from` and comes behind it is left
pub record IsBelow (S : List Rule) (K : Context) (A : Set) (from : ℕ) (F : Watched) : Type 0 where
  pub at : IsAt S K A from F
  pub least : IsLeastBehind S K A from
  pub found : F.list ≡ found_where S K (up_to K.width A)

-- attribute i is to be tried below the intent A, and all behind it were
pub record IsTrying (S : List Rule) (K : Context) (A : Set) (i : ℕ) (F : Watched) : Type 0 where
  pub at : IsAt S K A i F
  pub least : IsLeastBehind S K A i
  pub inside : i < K.width
  pub found : F.list ≡ found_where S K (up_to (suc i) A)

-- all that agree with A before attribute i were visited, and each good set of the test is good as it was
pub record HasFound (S : List Rule) (K : Context) (A : Set) (i : ℕ) (keeps : Set → Type 0) (old new : Watched) : Type 0 where
  pub found : new.list ≡ found_where S K (up_to i A)
  pub filed : IsFiled new.list.width new.list.members new.buckets
  pub kept : (X : Set) → keeps X → IsGood old.list.members old.buckets X → IsGood new.list.members new.buckets X

-- X lies within A
abbrev pub IsPart : Set → Set → Type 0
IsPart A X = within X A ≡ true

-- X lies within A and lacks the attribute before `from`
pub record IsPartBefore (A : Set) (from : ℕ) (X : Set) : Type 0 where
  pub part : within X A ≡ true
  pub attribute : ℕ
  pub entered : from ≡ suc attribute
  pub lacks : slice_index_or X attribute false ≡ false
