use Rattle.std.proofs.Common.{◌≡◌, ◌≤◌, false, filter, get_or, length, take}
use Rattle.extent_places.proofs.places.keep_having.Given as goal

abbrev pub invariant-loop-place : goal.invariant-loop-place
invariant-loop-place l = record {
  found : take l.count l.found ≡ filter (λ p. get_or l.column p false) (take l.place-index l.places);
  few : l.count ≤ l.place-index;
  room : length l.found ≡ length l.fn.found;
}
