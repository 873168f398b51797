-- Worked example: the places of {c}, {b}, {a} in the list of the sets over a, b, c with at most one member.
use Rattle.std.proofs.Common.{◌≡◌, refl, [], ◌∷◌, List}
use Rattle.std.specs.Prelude.{codes}
use Rattle.fca_model.specs.Sets.{Set}
use Rattle.fca_model.proofs.DrawnSets.{s}
use Rattle.lattice_covers.specs.Neighbours.{pairs_with}

abbrev three : List Set
three = s (codes "..X") ∷ s (codes ".X.") ∷ s (codes "X..") ∷ []

pub their_places : pairs_with (s (codes "...") ∷ three) 0 three ≡ (0, 1) ∷ (0, 2) ∷ (0, 3) ∷ []
their_places = refl
