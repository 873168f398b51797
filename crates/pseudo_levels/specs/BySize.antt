-- Sets by their size.
use Rattle.std.specs.Prelude.{◌≡◌, ℕ, true, List, [], ◌∷◌, ◌++◌, slice_index_or, ◌==◌}
use Rattle.std.specs.List.{list_all}
use Rattle.fca_model.specs.Sets.{Set, size}

-- the sets of all lists, one list after another
abbrev pub together : List (List Set) → List Set
together [] = []
together (Xs ∷ Bs) = Xs ++ together Bs

-- list k has sets of size k alone; there are lists as far as a size occurred
pub record AreBySize (Bs : List (List Set)) : Type 0 where
  pub sized : (k : ℕ) → list_all (λ X. size X == k) (slice_index_or Bs k []) ≡ true
