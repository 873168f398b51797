-- Sets and contexts for worked examples. A set is written as a row of a table, X for a member.
use Rattle.std.proofs.Common.{ℕ, List, [], ◌∷◌, map, eqb}
use Rattle.std.specs.Prelude.{codes}
use Rattle.fca_model.specs.Sets.{Set}
use Rattle.fca_model.specs.Context.{Context}

abbrev pub s : List ℕ → Set
s row = map (λ (c : ℕ). eqb c 88) row

-- the rows {a, b} and {b, c}
abbrev pub two_rows : Context
two_rows = record { width = 3; rows = s (codes "XX.") ∷ s (codes ".XX") ∷ [] }
