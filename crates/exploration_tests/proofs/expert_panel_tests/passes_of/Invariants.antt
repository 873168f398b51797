-- What the list holds, and the passes of the seats still to come, are the passes of all seats.
use Rattle.std.proofs.Common.{◌≡◌, ◌++◌, map}
use Rattle.std.specs.Vec.Iter.{into_iter_items}
use Rattle.exploration_tests.proofs.expert_panel_tests.passes_of.Given as goal

abbrev pub invariant-loop-seat : goal.invariant-loop-seat
invariant-loop-seat l = l.passes.items ++ map (λ seat. seat.pass) (into_iter_items l.seat-iterator) ≡ map
    (λ seat. seat.pass) l.fn.seats.items
