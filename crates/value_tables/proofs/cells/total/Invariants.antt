use Rattle.std.proofs.Common.{◌≡◌, ◌≤◌, ◌*◌, sum, take}
use Rattle.value_tables.proofs.cells.total.Given as goal

abbrev pub invariant-loop-n : goal.invariant-loop-n
invariant-loop-n l = record { sum : l.total ≡ sum (take l.n-index l.lengths); small : l.total ≤ 255 * l.n-index }
