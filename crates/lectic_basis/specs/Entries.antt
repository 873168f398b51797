-- Entries that stand for the members of a list: each is the place of one.
use Rattle.std.specs.Prelude.{ℕ, Bool, List, length, nat_lt}
use Rattle.fca_model.specs.Implications.{Rule}
use Rattle.lectic_basis.specs.Watches.{InBuckets}

-- the entry is a place in the list
abbrev pub is_entry : List Rule → ℕ → Bool
is_entry J e = nat_lt e (length J)

-- all in buckets are entries of the list
abbrev pub HaveEntries : List Rule → List (List ℕ) → Type 0
HaveEntries J Es = InBuckets (is_entry J) Es
