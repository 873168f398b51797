-- The next level of the basis that has a member.
--
-- Where a list has what is known and all basis members below a size, the sets that respect the list and are not closed are at least of that
-- size, and those of least size are the members of the next level. (Ganter and Wille, "Formal Concept Analysis", pseudo-intents; the levels
-- are those of `fca_model`.)
--
-- Of the rows {a}, {b}, {c} over a, b, c, with nothing known and nothing accepted, the sets that are not closed are {b, c}, {a, c} and {a,
-- b}, all of size 2: the next level is that of size 2, and has all three members.
use Rattle.std.specs.Prelude.{◌≡◌, ℕ, ◌≤◌, ◌+◌, ◌==◌, ◌⊎◌, length, Bool, nat_le, true, false, not, ◌&&◌, List, [], filter, map}
use Rattle.fca_model.specs.Sets.{Set, within, size, all_sets, agree_before}
use Rattle.fca_model.specs.Context.{Context, closure, is_closed}
use Rattle.fca_model.specs.Implications.{Rule, rule, respects_all}
use Rattle.fca_model.specs.Levels.{HasBelow, level_of}
use Rattle.implication_closure.specs.Closing.{HaveWidth}

-- L is the level of size b, the accepted are the members below it, and there is a member, or b is past the width
pub record IsNextLevel (S : List Rule) (K : Context) (acc : List Rule) (b : ℕ) (L : List Rule) : Type 0 where
  pub bounded : b ≤ K.width + 1
  pub below : HasBelow S K b acc
  pub members : L ≡ level_of S K b
  pub wide : HaveWidth K.width L
  pub none : L ≡ [] → b ≡ K.width + 1

-- each set that respects J and agrees with A before attribute k contains A
abbrev pub IsLeastUnder : List Rule → ℕ → Set → ℕ → Type 0
IsLeastUnder J n A k = (X : Set) → length X ≡ n → respects_all J X ≡ true → agree_before k A X ≡ true → within A X ≡ true

-- X respects J, is not closed, and has at most b members
abbrev pub is_open_within : List Rule → Context → ℕ → Set → Bool
is_open_within J K b X = (respects_all J X && not (is_closed K X)) && nat_le (size X) b

-- those that pass the test, with their closures, in lectic order
unfoldable pub open_where : List Rule → Context → ℕ → (Set → Bool) → List Rule
open_where J K b p = map (λ P. rule P (closure K P)) (filter p (filter (is_open_within J K b) (all_sets K.width)))

-- all sets
abbrev pub everything : Set → Bool
everything X = true

-- a set that respects J, is not closed, and passes the test
pub record IsOpen (J : List Rule) (K : Context) (p : Set → Bool) (X : Set) : Type 0 where
  pub wide : length X ≡ K.width
  pub respecting : respects_all J X ≡ true
  pub not_closed : is_closed K X ≡ false
  pub passes : p X ≡ true

-- X respects J, is not closed, and has b members
abbrev pub is_open_of_size : List Rule → Context → ℕ → Set → Bool
is_open_of_size J K b X = (respects_all J X && not (is_closed K X)) && (size X == b)

-- no open set has fewer than b members, L are those of b members, and there is one, or nothing is listed
pub record IsLeastLevel (J : List Rule) (K : Context) (b : ℕ) (L : List Rule) : Type 0 where
  pub least : (X : Set) → IsOpen J K everything X → b ≤ size X
  pub listed : L ≡ map (λ P. rule P (closure K P)) (filter (is_open_of_size J K b) (all_sets K.width))
  pub witness : (L ≡ []) ⊎ ((X : Set) × IsOpen J K everything X × (size X ≡ b))
