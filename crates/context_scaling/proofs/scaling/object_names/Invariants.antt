use Rattle.std.proofs.Common.{◌≡◌, map, take}
use Rattle.value_tables.specs.Values.{ObjectValues}
use Rattle.context_scaling.proofs.scaling.object_names.Given as goal

abbrev pub invariant-loop-g : goal.invariant-loop-g
invariant-loop-g l = l.names.items ≡ map (λ (object : ObjectValues). object.name) (take l.g l.values.objects)
