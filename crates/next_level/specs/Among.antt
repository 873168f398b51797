-- Sets among which all open ones are.
--
-- The rows and the rules of an exploration only grow. A set that respects the rules later and is not closed later did so before; so where
-- all such sets were listed once, those of all later levels are among them. (Ganter and Wille, "Formal Concept Analysis", attribute
-- exploration.)
--
-- Of the rows {a}, {b}, {c} over a, b, c, with no rules, the open sets are {b, c}, {a, c} and {a, b}. Under {b, c} -> {a, b, c} only the
-- last two are open.
use Rattle.std.specs.Prelude.{◌≡◌, ℕ, ◌<◌, ◌≤◌, ◌==◌, ◌||◌, Bool, true, false, not, nat_lt, List, Option, None, Some, filter}
use Rattle.std.specs.List.{list_any}
use Rattle.fca_model.specs.Sets.{Set, same, size, agree_before}
use Rattle.fca_model.specs.Context.{Context}
use Rattle.fca_model.specs.Implications.{Rule, premises}
use Rattle.next_level.specs.NextLevel.{IsOpen, everything}

-- X is among the sets, or they need not have all
abbrev pub may_be_open : Bool → List Set → Set → Bool
may_be_open whole sets X = not whole || list_any (same X) sets

-- each open set that agrees with A before attribute `from` is among the sets
abbrev pub AreAmong : List Rule → Context → Set → ℕ → Bool → List Set → Type 0
AreAmong J K A from whole sets = (X : Set) → IsOpen J K (agree_before from A) X → may_be_open whole sets X ≡ true

-- each open set is among the sets
abbrev pub AllAmong : List Rule → Context → Bool → List Set → Type 0
AllAmong J K whole sets = (X : Set) → IsOpen J K everything X → may_be_open whole sets X ≡ true

-- each open set that is larger than the level is among the sets
abbrev pub IsAhead : List Rule → Context → ℕ → Bool → List Set → Type 0
IsAhead J K level whole sets = (X : Set) → IsOpen J K everything X → level < size X → may_be_open whole sets X ≡ true

-- the sets are the premises that are larger than the level, and no set was left out for its size
pub record IsRest (width bound : ℕ) (members : List Rule) (level : ℕ) (sets : List Set) : Type 0 where
  pub all : width ≤ bound
  pub larger : sets ≡ premises (filter (λ i. nat_lt level (size i.premise)) members)

-- attribute i stands there
abbrev pub stands_at : ℕ → Option ℕ → Bool
stands_at i None = false
stands_at i (Some first) = first == i
