use Rattle.std.proofs.Common.{◌≡◌, filter, take, not}
use Rattle.context_reduce.specs.Reduce.{row_at, reducible}
use Rattle.context_reduce.proofs.rows.irreducible_rows_in.Given as goal

abbrev pub invariant-loop-g : goal.invariant-loop-g
invariant-loop-g gen l = l.kept ≡ filter (λ g. not (reducible l.rows (row_at l.rows g))) (take l.g-index l.places)
