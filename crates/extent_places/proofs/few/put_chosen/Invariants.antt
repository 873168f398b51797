use Rattle.std.proofs.Common.{◌≡◌, ◌≤◌, ◌-◌, ◌++◌, length, drop}
use Rattle.extent_places.specs.Few.{chosen}
use Rattle.extent_places.proofs.few.put_chosen.Given as goal

abbrev pub invariant-loop-object : goal.invariant-loop-object
invariant-loop-object l = record {
  inside : l.from ≤ length l.objects;
  chosen : l.found.items ++ chosen (drop l.from l.objects) (drop l.from l.places) ≡ chosen l.objects l.places;
}

abbrev pub decreases-loop-object : goal.decreases-loop-object
decreases-loop-object l = length l.objects - l.from
