-- Attributes that an attribute forces.
--
-- Where the closure of a set with attribute i was seen to have another attribute, so have the closures of larger sets with i, also under
-- more implications. (Andrews, "Making use of empty intersections to improve the performance of CbO-type algorithms", 2017, and Krajca,
-- Outrata and Vychodil, FCbO, 2010, pass such failures down the tree; LinCbO with pruning does so too.)
--
-- Under {a} -> {c} each set that contains {b} and has a has c, and so each that contains {b, d}.
use Rattle.std.specs.Prelude.{◌≡◌, ℕ, ◌<◌, ◌≤◌, ◌+◌, Bool, true, false, not, ◌&&◌, ◌||◌, List, nat_le, slice_index_or}
use Rattle.fca_model.specs.Sets.{Set, within}
use Rattle.fca_model.specs.Implications.{Rule, respects_all}

-- what respects M respects J
abbrev pub IsLonger : List Rule → List Rule → Type 0
IsLonger J M = (T : Set) → respects_all M T ≡ true → respects_all J T ≡ true

-- each set that contains A, has i and respects J has the attribute at place i; where none stands there, that is i itself
abbrev pub AreForced : List Rule → Set → List ℕ → Type 0
AreForced J A ws = (i : ℕ) (T : Set) → within A T ≡ true → slice_index_or T i false ≡ true → respects_all J T ≡ true
    → slice_index_or T (slice_index_or ws i i) false ≡ true

-- attribute i is tried below A: A lacks it, and what it forces is not before it, or A has that
abbrev pub is_to_try : Set → List ℕ → ℕ → Bool
is_to_try A ws i = not (slice_index_or A i false) && (nat_le i (slice_index_or ws i i) || slice_index_or A (slice_index_or ws i i) false)

-- none of these attributes is tried
abbrev pub NoneToTry : Set → List ℕ → ℕ → ℕ → Type 0
NoneToTry A ws from end = (j : ℕ) → from ≤ j → j < end → is_to_try A ws j ≡ false

-- i is the last of these attributes that is tried
pub record IsLastToTry (A : Set) (ws : List ℕ) (from end i : ℕ) : Type 0 where
  pub at_least : from ≤ i
  pub in_range : i < end
  pub tried : is_to_try A ws i ≡ true
  pub last : NoneToTry A ws (i + 1) end
