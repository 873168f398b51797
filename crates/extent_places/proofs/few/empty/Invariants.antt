use Rattle.std.proofs.Common.{◌≡◌, length}
use Rattle.extent_places.proofs.few.empty.Given as goal

abbrev pub invariant-loop-rows : goal.invariant-loop-rows
invariant-loop-rows g l = l.rows.width ≡ l.width

abbrev pub decreases-loop-rows : goal.decreases-loop-rows
decreases-loop-rows g l = length l.rows.rows
