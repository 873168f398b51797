use Rattle.std.proofs.Common.{◌≡◌, take}
use Rattle.std.specs.List.{list_any}
use Rattle.fca_model.specs.Sets.{Set, same}
use Rattle.fca_model.specs.Implications.{premises}
use Rattle.canonical_basis.proofs.ordering.gather.Given as goal

abbrev pub invariant-loop-i : goal.invariant-loop-i
invariant-loop-i l = (A : Set) → list_any (same A) l.sets.keys ≡ list_any (same A) (premises (take l.i-index l.members))
