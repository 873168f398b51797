-- The intents and the pseudo-intents together, and the members of the basis up to a place of the tree.
--
-- The family of a context has the sets that take in the conclusion of each basis member whose premise lies strictly within them: the
-- intents and the pseudo-intents. A tree visits it in lectic order: below a set A are those that agree with A before an attribute.
-- (Ganter and Wille, "Formal Concept Analysis", pseudo-intents and the algorithm Next Closure.)
--
-- Of the rows {a}, {b}, {c} over a, b, c the family is {}, {c}, {b}, {b, c}, {a}, {a, c}, {a, b}, {a, b, c}; {b, c}, {a, c} and {a, b} are
-- not closed.
use Rattle.std.specs.Prelude.{◌≡◌, ℕ, zero, suc, length, Bool, true, false, not, ◌&&◌, ◌||◌, List, ◌++◌, filter, slice_index_or}
use Rattle.fca_model.specs.Sets.{Set, within, strictly_within, agree_before}
use Rattle.fca_model.specs.Context.{Context, closure}
use Rattle.fca_model.specs.Implications.{Rule, respects_all}
use Rattle.fca_model.specs.Pseudo.{pseudo_known, basis_known}
use Rattle.implication_closure.specs.Closing.{RuleList}

-- X respects what is known and takes in the closure of each pseudo-intent strictly within it
pub record InFamily (S : List Rule) (K : Context) (X : Set) : Type 0 where
  pub wide : length X ≡ K.width
  pub respecting : respects_all S X ≡ true
  pub absorbing : (Q : Set) → length Q ≡ K.width → pseudo_known S K Q ≡ true → strictly_within Q X ≡ true → within (closure K Q) X ≡ true

-- each set of the family that agrees with A before attribute k contains A
abbrev pub IsLeastFrom : List Rule → Context → Set → ℕ → Type 0
IsLeastFrom S K A k = (X : Set) → InFamily S K X → agree_before k A X ≡ true → within A X ≡ true

-- the first k places of X come lectically before those of A
abbrev pub before : ℕ → Set → Set → Bool
before zero A X = false
before (suc k) A X = before k A X || (agree_before k A X && (slice_index_or A k false && not (slice_index_or X k false)))

-- the first k places of X are those of A or come before them
abbrev pub up_to : ℕ → Set → Set → Bool
up_to k A X = before k A X || agree_before k A X

-- each set of the family that agrees with A before attribute k and comes behind A contains A
abbrev pub IsLeastBehind : List Rule → Context → Set → ℕ → Type 0
IsLeastBehind S K A k = (X : Set) → InFamily S K X → agree_before k A X ≡ true → up_to K.width A X ≡ false → within A X ≡ true

-- the known implications, and then the basis members whose premise passes the test
unfoldable pub members_where : List Rule → Context → (Set → Bool) → List Rule
members_where S K p = S ++ filter (λ i. p i.premise) (basis_known S K)

-- the list of these
abbrev pub found_where : List Rule → Context → (Set → Bool) → RuleList
found_where S K p = record { width = K.width; members = members_where S K p }
