-- From which attributes a child of an intent may come.
use Rattle.std.specs.Prelude.{◌≡◌, ◌+◌, ◌<◌, ◌≤◌, ℕ, false, slice_index_or}
use Rattle.fca_model.specs.Sets.{Set}
use Rattle.fca_model.specs.Context.{Context}
use Rattle.lectic_concepts.specs.Branches.{branch}

-- no child of A comes from an attribute that T lacks
abbrev pub AreAttributesToTry : Context → Set → Set → Type 0
AreAttributesToTry K A T = (i : ℕ) → i < K.width → slice_index_or T i false ≡ false → branch K A i ≡ branch K A (i + 1)

-- T lacks the attributes from one on and before another
abbrev pub LacksBetween : Set → ℕ → ℕ → Type 0
LacksBetween T from end = (i : ℕ) → from ≤ i → i < end → slice_index_or T i false ≡ false
