use Rattle.std.proofs.Common.{◌≡◌, ◌∷◌, suc, length, ap, arith}
use Rattle.std.specs.Vec.Iter.{into_iter_items}
use Rattle.expert_gate.proofs.SeatLemmas.{part-put}
use Rattle.expert_panel.proofs.explored.split_into.Goals as goal

pub loop-seat-preserved : goal.loop-seat-preserved
loop-seat-preserved c =
    let steps : into_iter_items c.loop-seat.seat-iterator ≡ c.in-Some.seat ∷ into_iter_items c.next.new.self = c.in-Some.ensures.steps.0 in
    let one : length (into_iter_items c.loop-seat.seat-iterator) ≡ suc (length (into_iter_items c.next.new.self)) = ap length steps in
    record {
      passes = part-put (λ seat. seat.pass) c.loop-seat.passes.items c.push_reserved.new.self.items _ c.in-Some.seat _ _
          c.loop-seat.invariant.passes steps c.push_reserved.ensures.items;
      experts = part-put (λ seat. seat.expert) c.loop-seat.oracles.items c.push_reserved-in-loop-seat.new.self.items _ c.in-Some.seat _ _
          c.loop-seat.invariant.experts steps c.push_reserved-in-loop-seat.ensures.items;
      passes_room = let before = c.loop-seat.invariant.passes_room in let more = c.push_reserved.ensures.len in
          let room = c.push_reserved.ensures.capacity in omega arith;
      experts_room = let before = c.loop-seat.invariant.experts_room in let more = c.push_reserved-in-loop-seat.ensures.len in
          let room = c.push_reserved-in-loop-seat.ensures.capacity in omega arith;
    }
