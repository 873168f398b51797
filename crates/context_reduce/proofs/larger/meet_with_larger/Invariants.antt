use Rattle.std.proofs.Common.{◌≡◌, filter, fold, take}
use Rattle.fca_model.specs.Sets.{meet, strictly_within}
use Rattle.context_reduce.proofs.larger.meet_with_larger.Given as goal

abbrev pub invariant-loop-row : goal.invariant-loop-row
invariant-loop-row g l = l.met ≡ fold meet l.start (filter (strictly_within l.set) (take l.row-index l.rows))
