-- The search for proper premises by sizes.
--
-- A set is free if no member of it lies in the closure of the others. A proper premise is free, and so is each set within a free one. So
-- each free set is met once, from itself without its first member: a level has the free sets of one size, and the sets visited next are
-- those of the level with one attribute more that comes before all members. (Free sets are the minimal generators of the intents:
-- Bastide, Taouil, Pasquier, Stumme and Lakhal, 2000, "Mining frequent patterns with counting inference".)
use Rattle.std.specs.Prelude.{◌≡◌, ℕ, zero, suc, Bool, true, false, not, List, [], ◌∷◌, map, filter, fold, replicate, slice_index_or}
use Rattle.std.specs.Prelude.{slice_set}
use Rattle.std.specs.List.{list_all, range_with_len, flat_map}
use Rattle.std.specs.BTreeSet.{insert_key}
use Rattle.fca_model.specs.Sets.{Set, lectic_cmp}
use Rattle.fca_model.specs.Context.{Context, closure}
use Rattle.direct_basis.specs.Direct.{members, without, from_parts}

-- no member of A lies in the closure of the others
abbrev pub free : Context → Set → Bool
free K A = list_all (λ a. not (slice_index_or (closure K (without A a)) a false)) (members A)

-- A is free, and X is A joined with the closures of A without one of its members
pub record IsOfFree (K : Context) (A X : Set) : Type 0 where
  pub free_set : free K A ≡ true
  pub joined : X ≡ from_parts K A

-- the place of the first member, or the width if there is none
abbrev pub first_place : Set → ℕ
first_place [] = 0
first_place (true ∷ A) = 0
first_place (false ∷ A) = suc (first_place A)

-- A with one attribute more that comes before all its members
abbrev pub larger : Set → List Set
larger A = map (λ i. slice_set A i true) (range_with_len 0 (first_place A))

-- the sets of size k that are visited: the empty set, and what is larger than the free ones of size k - 1
unfoldable pub visited : Context → ℕ → List Set
visited K zero = replicate K.width false ∷ []
visited K (suc k) = flat_map larger (filter (free K) (visited K k))

-- sets in lectic order, with further sets put in their places
abbrev pub placed : List Set → List Set → List Set
placed = fold (insert_key lectic_cmp)
