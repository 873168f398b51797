-- The basis by levels of size.
--
-- Whether a set is a pseudo-intent depends on smaller pseudo-intents alone, so the basis can be found size by size: the members whose
-- premise has one size
-- are a level, and a list that has all members below a size decides which sets of that size are members.
--
-- Of one empty row over a, b, c all three members are in the level of size 1.
use Rattle.std.specs.Prelude.{◌≡◌, ℕ, zero, suc, Bool, true, not, ◌||◌, List, [], ◌++◌, filter, ◌==◌, nat_le, nat_lt}
use Rattle.std.specs.List.{list_all}
use Rattle.fca_model.specs.Sets.{Set, size, within, strictly_within}
use Rattle.fca_model.specs.Context.{Context}
use Rattle.fca_model.specs.Implications.{Rule}
use Rattle.fca_model.specs.Pseudo.{basis_known}

-- the basis members whose premise has this size, in lectic order
unfoldable pub level_of : List Rule → Context → ℕ → List Rule
level_of S K k = filter (λ i. size i.premise == k) (basis_known S K)

-- the levels of the sizes below k, one after another
unfoldable pub levels_below : ℕ → List Rule → Context → List Rule
levels_below zero S K = []
levels_below (suc k) S K = levels_below k S K ++ level_of S K k

-- the members of the basis, by size of the premise and then in lectic order
unfoldable pub by_size : List Rule → Context → List Rule
by_size S K = levels_below (suc K.width) S K

-- P takes in the conclusion of each premise strictly within it
abbrev pub absorbs_all : List Rule → Set → Bool
absorbs_all found P = list_all (λ i. not (strictly_within i.premise P) || within i.conclusion P) found

-- the list has basis members alone, of sizes below k, and each of them
pub record HasBelow (S : List Rule) (K : Context) (k : ℕ) (found : List Rule) : Type 0 where
  pub sound : (p : Rule → Bool) → list_all p (basis_known S K) ≡ true → list_all p found ≡ true
  pub small : list_all (λ i. nat_lt (size i.premise) k) found ≡ true
  pub complete : (p : Rule → Bool) → list_all p found ≡ true → list_all (λ i. nat_le k (size i.premise) || p i) (basis_known S K) ≡ true
