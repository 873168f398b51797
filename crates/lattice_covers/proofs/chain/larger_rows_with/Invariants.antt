use Rattle.std.proofs.Common.{◌≡◌, filter, take}
use Rattle.fca_model.specs.Sets.{within}
use Rattle.lattice_covers.proofs.chain.larger_rows_with.Given as goal

abbrev pub invariant-loop-row : goal.invariant-loop-row
invariant-loop-row g l = record {
  found : l.above ≡ record { width = l.rows.width; rows = filter (within l.a) (take l.row-index l.rows.rows) };
}
