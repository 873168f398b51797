use Rattle.std.proofs.Common.{◌≡◌, take}
use Rattle.context_scaling.proofs.scaling.copy_names.Given as goal

abbrev pub invariant-loop-name : goal.invariant-loop-name
invariant-loop-name l = l.list.items ≡ take l.name-index l.names
