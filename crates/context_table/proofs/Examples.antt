-- Worked examples of the definitions, checked by computing.
use Rattle.std.proofs.Common.{◌≡◌, refl, true, false, [], ◌∷◌, None, codes, ◌/◌, ◌^◌}
use Rattle.std.specs.Fmt.{digits}
use Rattle.context_table.specs.Generated.{next_state, state_after, made_table}

pub first_states : (state_after 1 0 ≡ 1442695040888963407) × (state_after 2 0 ≡ 1876011003808476466)
    × (state_after 3 0 ≡ 11166244414315200793) × (state_after 4 0 / 2 ^ 61 ≡ 3)
unfolding state_after next_state
first_states = (refl, refl, refl, refl)

pub two_by_two : made_table 0 2 2 4 ≡ record {
  title = None;
  objects = codes "g1" ∷ codes "g2" ∷ [];
  attributes = codes "m1" ∷ codes "m2" ∷ [];
  context = record { width = 2; rows = (true ∷ true ∷ []) ∷ (false ∷ true ∷ []) ∷ [] };
}
unfolding made_table state_after next_state digits
two_by_two = refl
