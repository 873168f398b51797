use Rattle.std.proofs.Common.{◌≡◌, ◌+◌, ◌-◌, true, length}
use Rattle.fca_model.specs.Sets.{within, size}
use Rattle.fca_model.specs.Context.{closure}
use Rattle.extent_blocks.proofs.extent.BlockExtent.closure_by_columns.Given as goal

abbrev pub invariant-loop-k : goal.invariant-loop-k
invariant-loop-k g l = record {
  met_wide : length l.met ≡ l.indexed.width;
  kept_wide : length l.kept ≡ l.indexed.width;
  above : within (closure l.indexed l.a) l.met ≡ true;
  below : within l.kept (closure l.indexed l.a) ≡ true;
}

abbrev pub decreases-loop-k : goal.decreases-loop-k
decreases-loop-k g l = size l.met + (l.indexed.width - size l.kept)
