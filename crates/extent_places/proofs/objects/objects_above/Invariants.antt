use Rattle.std.proofs.Common.{◌-◌, length}
use Rattle.fca_model.specs.Sets.{size}
use Rattle.extent_places.proofs.ObjectLemmas.{IsGrown}
use Rattle.extent_places.proofs.objects.objects_above.Given as goal

abbrev pub invariant-loop-attribute : goal.invariant-loop-attribute
invariant-loop-attribute g l = IsGrown l.rows l.a l.grown l.having

abbrev pub decreases-loop-attribute : goal.decreases-loop-attribute
decreases-loop-attribute g l = length l.grown - size l.grown
