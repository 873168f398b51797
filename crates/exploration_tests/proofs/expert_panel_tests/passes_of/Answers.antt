use Rattle.std.proofs.Common.{◌≡◌, ◌∷◌}
use Rattle.std.specs.Vec.Iter.{into_iter_items}
use Rattle.expert_gate.proofs.SeatLemmas.{part-put}
use Rattle.exploration_tests.proofs.expert_panel_tests.passes_of.Goals as goal

pub loop-seat-preserved : goal.loop-seat-preserved
loop-seat-preserved c =
    let steps : into_iter_items c.loop-seat.seat-iterator ≡ c.in-Some.seat ∷ into_iter_items c.next.new.self = c.in-Some.ensures.steps.0 in
    part-put (λ seat. seat.pass) c.loop-seat.passes.items c.push.new.self.items _ c.in-Some.seat _ _ c.loop-seat.invariant steps
    c.in_ok-push.ensures.items
