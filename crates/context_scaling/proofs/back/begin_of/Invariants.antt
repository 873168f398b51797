use Rattle.std.proofs.Common.{◌≡◌, length, take}
use Rattle.context_scaling.specs.Scaling.{made_names}
use Rattle.context_scaling.proofs.back.begin_of.Given as goal

abbrev pub invariant-loop-planned : goal.invariant-loop-planned
invariant-loop-planned l = l.begin ≡ length (made_names (take l.planned-index l.plan))
