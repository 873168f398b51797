-- Worked examples.
use Rattle.std.proofs.Common.{◌≡◌, refl, ℕ, List, [], ◌∷◌, map, eqb, true, false}
use Rattle.std.specs.Prelude.{codes}
use Rattle.fca_model.specs.Sets.{Set, all_sets}
use Rattle.fca_model.specs.Context.{Context}
use Rattle.fca_model.specs.Implications.{rule}
use Rattle.direct_basis.specs.Direct.{direct, one_pass, proper}
use Rattle.direct_basis.specs.Levels.{free, visited}

-- sets are written as in texts: X for a member
abbrev s : List ℕ → Set
s row = map (λ (c : ℕ). eqb c 88) row

-- {b, c, d}, {c, d}, {a, b, d}, {a, b} and {c} over a, b, c, d
abbrev five_rows : Context
five_rows = record { width = 4; rows = s (codes ".XXX") ∷ s (codes "..XX") ∷ s (codes "XX.X") ∷ s (codes "XX..") ∷ s (codes "..X.") ∷ [] }

pub three_members : direct five_rows ≡ rule (s (codes ".XX.")) (s (codes ".XXX")) ∷ rule (s (codes "X...")) (s (codes "XX..")) ∷ rule
    (s (codes "X.X.")) (s (codes "XXXX")) ∷ []
unfolding direct all_sets
three_members = refl

-- {a} gives b; that {b, c} gives d is seen by a second pass over the other two alone
pub one_pass_over_three : one_pass (direct five_rows) (s (codes "X.X.")) ≡ s (codes "XXXX")
unfolding direct all_sets
one_pass_over_three = refl

pub one_pass_over_two : one_pass (rule (s (codes ".XX.")) (s (codes ".XXX")) ∷ rule (s (codes "X...")) (s (codes "XX..")) ∷ [])
    (s (codes "X.X.")) ≡ s (codes "XXX.")
one_pass_over_two = refl

-- {b, d} gives nothing: it is free, and no proper premise
pub free_not_proper : (free five_rows (s (codes ".X.X")) ≡ true) × (proper five_rows (s (codes ".X.X")) ≡ false)
free_not_proper = (refl, refl)

-- of size 2 the six sets but {a, b}, {b, d}, {c, d} .. are larger than a free one by a first member
pub visited_of_size_one : visited five_rows 1 ≡ s (codes "X...") ∷ s (codes ".X..") ∷ s (codes "..X.") ∷ s (codes "...X") ∷ []
unfolding visited
visited_of_size_one = refl

pub no_rows : direct (record { width = 3; rows = [] }) ≡ rule (s (codes "...")) (s (codes "XXX")) ∷ []
unfolding direct all_sets
no_rows = refl

pub nominal : direct (record { width = 3; rows = s (codes "X..") ∷ s (codes ".X.") ∷ s (codes "..X") ∷ [] }) ≡ rule (s (codes ".XX"))
    (s (codes "XXX")) ∷ rule (s (codes "X.X")) (s (codes "XXX")) ∷ rule (s (codes "XX.")) (s (codes "XXX")) ∷ []
unfolding direct all_sets
nominal = refl

pub no_attributes : direct (record { width = 0; rows = [] ∷ [] ∷ [] }) ≡ []
unfolding direct all_sets
no_attributes = refl
