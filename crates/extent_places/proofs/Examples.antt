-- Worked rows.
use Rattle.std.proofs.Common.{◌≡◌, true, false, [], ◌∷◌, refl}
use Rattle.extent_places.specs.Places.{column}
use Rattle.extent_places.specs.Few.{chosen}

-- of the objects at places 4, 7 and 9 the first and the last
pub chosen_of_three : chosen (true ∷ false ∷ true ∷ []) (4 ∷ 7 ∷ 9 ∷ []) ≡ 4 ∷ 9 ∷ []
chosen_of_three = refl

-- of three rows the second alone lacks attribute 1
pub column_of_three : column ((true ∷ true ∷ []) ∷ (true ∷ false ∷ []) ∷ (false ∷ true ∷ []) ∷ []) 1 ≡ true ∷ false ∷ true ∷ []
column_of_three = refl
