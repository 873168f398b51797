use Rattle.fca_model.specs.Sets.{size}
use Rattle.extent_places.proofs.ObjectLemmas.{IsMet}
use Rattle.extent_places.proofs.objects.meet_of.Given as goal

abbrev pub invariant-loop-object : goal.invariant-loop-object
invariant-loop-object g l = IsMet l.rows l.least l.objects l.met l.rest

abbrev pub decreases-loop-object : goal.decreases-loop-object
decreases-loop-object g l = size l.rest
