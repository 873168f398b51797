-- The branches of a walk.
--
-- The sets that contain the least one are those that agree with it before some attribute, and behind these, for each attribute before, the
-- last first, those that agree with the least set before it and have it. In this order they are in lectic order. (Ganter and Wille, "Formal
-- Concept Analysis", the algorithm Next Closure.)
--
-- Of the sets over a, b, c, where {} is the least, {} and {c} agree with it before attribute 2, the branch of attribute 1 has {b} and {b,
-- c}, and that of attribute 0 has the four sets with a.
use Rattle.std.specs.Prelude.{◌≡◌, ℕ, zero, suc, ◌+◌, ◌-◌, ◌/◌, ◌%◌, ◌==◌, ◌&&◌, Bool, cond, not, false, true, List, [], replicate}
use Rattle.std.specs.Prelude.{slice_index_or, slice_set}
use Rattle.std.specs.List.{AllZip, range_with_len}
use Rattle.fca_model.specs.Sets.{Set, agree_before}
use Rattle.fca_model.specs.Context.{Context}
use Rattle.fca_model.specs.Implications.{Rule}
use Rattle.implication_closure.specs.Closing.{RuleList, IsClosure}
use Rattle.lectic_basis.specs.Trees.{up_to}
use Rattle.next_level.specs.NextLevel.{open_where}
use Rattle.next_level.specs.declared.open_sets.OpenSets.{OpenSets}

-- A is the least set that respects the list
pub record IsRoot (K : Context) (L : RuleList) (A : Set) : Type 0 where
  pub width : L.width ≡ K.width
  pub closure : IsClosure L.members (replicate K.width false) A

-- A lacks attribute i, and X has it and agrees with A before it
abbrev pub in_branch : ℕ → Set → Set → Bool
in_branch i A X = not (slice_index_or A i false) && agree_before (suc i) (slice_set A i true) X

-- part k: what agrees with A before attribute n or comes before it, and then the branches before, the last first
abbrev pub in_part : ℕ → ℕ → Set → Set → Bool
in_part n zero A = up_to n A
in_part n (suc k) A = in_branch (n - suc k) A

-- the first k parts
abbrev pub in_parts : ℕ → ℕ → Set → Set → Bool
in_parts n zero A X = false
in_parts n (suc k) A X = up_to (n - k) A X

-- the members are the open sets up to bound c that pass the test; while there is none, the bound is b as at the start
pub record AreOpen (J : List Rule) (K : Context) (p : Set → Bool) (b c : ℕ) (members : List Rule) : Type 0 where
  pub listed : members ≡ open_where J K c p
  pub steady : members ≡ [] → c ≡ b

-- Large parts stand at the end. So the list has by turns one from the front and one from the end, and two neighbours have about as many sets
-- as two others. This is the number of the part at a place.
abbrev pub part_at : ℕ → ℕ → ℕ
part_at n place = cond (place % 2 == 0) (place / 2) (n - place / 2)

-- the list has the open sets of each of the first n + 1 parts
abbrev pub HasParts : List Rule → Context → ℕ → Set → ℕ → {W : ℕ} → List (OpenSets W) → Type 0
HasParts J K n A b parts =
    AllZip (λ place sets. AreOpen J K (in_part n (part_at n place) A) b sets.bound sets.members.items) (range_with_len 0 (n + 1)) parts
