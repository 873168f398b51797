use Rattle.std.proofs.Common.{◌≡◌, drop, take}
use Rattle.context_scaling.specs.Back.{single_place, places_from}
use Rattle.context_scaling.proofs.NominalLemmas.{found_then}
use Rattle.context_scaling.proofs.back.single_place.Given as goal

abbrev pub invariant-loop-p : goal.invariant-loop-p
invariant-loop-p l = found_then l.found (places_from l.p (drop l.p (take l.count (drop l.first l.row)))) ≡ single_place
    (places_from 0 (take l.count (drop l.first l.row)))
