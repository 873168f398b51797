-- Lists of implications, and the closure of a set under one.
use Rattle.std.specs.Prelude.{◌≡◌, ◌≤◌, ℕ, Bool, true, ◌&&◌, List, length, ◌==◌, not, ◌||◌, ◌<◌, slice_index_or}
use Rattle.std.specs.List.{list_all}
use Rattle.fca_model.specs.Sets.{Set, within}
use Rattle.fca_model.specs.Implications.{Rule, respects_all}

-- a number of attributes and a list of implications between sets of that width
pub record RuleList : Type 0 where
  pub width : ℕ
  pub members : List Rule

-- premise and conclusion have width n
abbrev pub has_width : ℕ → Rule → Bool
has_width n i = (length i.premise == n) && (length i.conclusion == n)

-- each implication of the list has width n
abbrev pub HaveWidth : ℕ → List Rule → Type 0
HaveWidth n J = list_all (has_width n) J ≡ true

-- C is the least superset of A that respects each member of J
pub record IsClosure (J : List Rule) (A C : Set) : Type 0 where
  pub wide : length C ≡ length A
  pub above : within A C ≡ true
  pub respecting : respects_all J C ≡ true
  pub least : (T : Set) → within A T ≡ true → respects_all J T ≡ true → within C T ≡ true

-- C has the conclusion of each member whose premise lies within A, and lies within each superset of A that respects all
pub record IsPass (J : List Rule) (A C : Set) : Type 0 where
  pub wide : length C ≡ length A
  pub above : within A C ≡ true
  pub absorbed : list_all (λ i. not (within i.premise A) || within i.conclusion C) J ≡ true
  pub bounded : (T : Set) → within A T ≡ true → respects_all J T ≡ true → within C T ≡ true

-- C has the conclusion of each member that has no premise attribute left
abbrev pub Fired : List ℕ → List Rule → Set → Type 0
Fired left J C = (k : ℕ) (i : Rule) → k < length J → i ≡ slice_index_or J k i → slice_index_or left k 0 ≡ 0 → within i.conclusion C ≡ true

-- a number of attributes, and the number of members that there is room for
pub record Room : Type 0 where
  pub width : ℕ
  pub members : ℕ

-- the list is of that width, and there is room for its members
pub record Fits (room : Room) (J : RuleList) : Type 0 where
  pub wide : room.width ≡ J.width
  pub short : length J.members ≤ room.members
