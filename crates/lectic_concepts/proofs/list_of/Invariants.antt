use Rattle.std.proofs.Common.{◌≡◌, take}
use Rattle.lectic_concepts.proofs.list_of.Given as goal

abbrev pub invariant-loop-place : goal.invariant-loop-place
invariant-loop-place l = l.list ≡ take l.place-index l.places
