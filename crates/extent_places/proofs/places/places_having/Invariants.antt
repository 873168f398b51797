use Rattle.std.proofs.Common.{◌≡◌, take}
use Rattle.fca_model.specs.Context.{extent}
use Rattle.extent_places.proofs.places.places_having.Given as goal

abbrev pub invariant-loop-place : goal.invariant-loop-place
invariant-loop-place g l = l.places.items ≡ take l.place-index (extent l.rows l.set)
