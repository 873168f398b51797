use Rattle.std.proofs.Common.{◌≡◌, take}
use Rattle.extent_places.specs.Places.{rows_at}
use Rattle.extent_places.proofs.few.put_rows.Given as goal

abbrev pub invariant-loop-place : goal.invariant-loop-place
invariant-loop-place g l = l.kept ≡ record { width = l.rows.width; rows = rows_at l.rows.rows (take l.place-index l.places) }
