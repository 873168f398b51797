use Rattle.fca_model.specs.Sets.{size}
use Rattle.extent_places.proofs.ObjectLemmas.{IsCommon}
use Rattle.extent_places.proofs.objects.common_of.Given as goal

abbrev pub invariant-loop-attribute : goal.invariant-loop-attribute
invariant-loop-attribute g l = IsCommon l.rows l.least l.common l.others

abbrev pub decreases-loop-attribute : goal.decreases-loop-attribute
decreases-loop-attribute g l = size l.others
