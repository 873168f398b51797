-- The rows at some places of a list, and the places of the rows that have an attribute.
use Rattle.std.specs.Prelude.{ℕ, Bool, false, List, [], map, slice_index_or}
use Rattle.fca_model.specs.Sets.{Set}

-- the row at a place
abbrev pub row_at : List Set → ℕ → Set
row_at Rs p = slice_index_or Rs p []

-- the row at a place has attribute i
abbrev pub has_at : List Set → ℕ → ℕ → Bool
has_at Rs i p = slice_index_or (row_at Rs p) i false

-- the rows at the places
abbrev pub rows_at : List Set → List ℕ → List Set
rows_at Rs ps = map (row_at Rs) ps

-- the rows that have attribute i, as a set of places
abbrev pub column : List Set → ℕ → Set
column Rs i = map (λ R. slice_index_or R i false) Rs
