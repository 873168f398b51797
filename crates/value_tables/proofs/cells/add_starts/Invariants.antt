use Rattle.std.proofs.Common.{◌<◌, ◌+◌, ◌*◌, ◌-◌, length}
use Rattle.value_tables.specs.Cells.{StartsRight}
use Rattle.value_tables.proofs.cells.add_starts.Given as goal

abbrev pub invariant-loop-starts : goal.invariant-loop-starts
invariant-loop-starts l = record {
  right : StartsRight l.starts.items l.lengths;
  needed : 16 * length l.starts.items < length l.lengths + 16;
}

abbrev pub decreases-loop-starts : goal.decreases-loop-starts
decreases-loop-starts l = length l.lengths + 16 - 16 * length l.starts.items
