-- The crosses of the rows before this one. None of the rows has more than a number of 32 bits counts.
use Rattle.std.proofs.Common.{◌≡◌, ◌≤◌, ◌*◌, ◌^◌, take}
use Rattle.std.specs.Prelude.{sum_by}
use Rattle.fca_model.specs.Sets.{size}
use Rattle.basis_report.proofs.surveys.crosses.Given as goal

abbrev pub invariant-loop-row : goal.invariant-loop-row
invariant-loop-row l = (l.crosses ≡ sum_by size (take l.row-index l.table.context.rows)) × (l.crosses ≤ l.row-index * 2 ^ 32)
