use Rattle.std.proofs.Common.{◌≡◌, drop}
use Rattle.std.specs.Prelude.{fold}
use Rattle.fca_model.specs.Sets.{meet}
use Rattle.fca_model.specs.Context.{closure}
use Rattle.extent_places.specs.Places.{rows_at}
use Rattle.extent_places.proofs.places.closure_at.Given as goal

abbrev pub invariant-loop-place : goal.invariant-loop-place
invariant-loop-place g l = fold meet l.met (rows_at l.rows.rows (drop l.place-index l.places)) ≡ closure l.rows l.least
