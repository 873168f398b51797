use Rattle.std.proofs.Common.{◌≡◌, ◌<◌, ℕ, false, All, length, take, get_or}
use Rattle.extent_places.specs.Places.{has_at}
use Rattle.extent_places.proofs.tries.join_of_rows.Given as goal

abbrev pub invariant-loop-place : goal.invariant-loop-place
invariant-loop-place g l = record {
  wide : length l.reached ≡ l.rows.width;
  rest : (i : ℕ) → i < l.rows.width → get_or l.reached i false ≡ false
      → All (λ p. has_at l.rows.rows i p ≡ false) (take l.place-index l.places);
}
