use Rattle.std.proofs.Common.{◌≡◌, ◌∷◌, suc, length, vec_len, ap, arith}
use Rattle.std.specs.Prelude.{vec_capacity}
use Rattle.std.specs.Vec.Iter.{into_iter_items}
use Rattle.expert_gate.proofs.SeatLemmas.{part-put}
use Rattle.expert_sessions.proofs.SeatLemmas.{room-next}
use Rattle.expert_sessions.proofs.seats.split_into.Goals as goal

pub push_reserved-requires : goal.push_reserved-requires
push_reserved-requires g c = room-next (vec_len c.loop-seat.passes)
    (vec_capacity c.loop-seat.passes) c.in-Some.seat _ _ c.loop-seat.invariant.passes_room c.in-Some.ensures.steps.0

pub push_reserved-requires-in-loop-seat : goal.push_reserved-requires-in-loop-seat
push_reserved-requires-in-loop-seat g c = room-next (vec_len c.loop-seat.ends)
    (vec_capacity c.loop-seat.ends) c.in-Some.seat _ _ c.loop-seat.invariant.ends_room c.in-Some.ensures.steps.0

pub push_reserved-requires-in-loop-seat-2 : goal.push_reserved-requires-in-loop-seat-2
push_reserved-requires-in-loop-seat-2 g c = room-next (vec_len c.loop-seat.all_ended)
    (vec_capacity c.loop-seat.all_ended) c.in-Some.seat _ _ c.loop-seat.invariant.ended_room c.in-Some.ensures.steps.0

pub loop-seat-preserved : goal.loop-seat-preserved
loop-seat-preserved g c =
    let steps : into_iter_items c.loop-seat.seat-iterator ≡ c.in-Some.seat ∷ into_iter_items c.next.new.self = c.in-Some.ensures.steps.0 in
    let one : length (into_iter_items c.loop-seat.seat-iterator) ≡ suc (length (into_iter_items c.next.new.self)) = ap length steps in
    record {
      passes = part-put (λ seat. seat.pass) c.loop-seat.passes.items c.push_reserved.new.self.items _ c.in-Some.seat _ _
          c.loop-seat.invariant.passes steps c.push_reserved.ensures.items;
      ends = part-put (λ seat. seat.end) c.loop-seat.ends.items c.push_reserved-in-loop-seat.new.self.items _ c.in-Some.seat _ _
          c.loop-seat.invariant.ends steps c.push_reserved-in-loop-seat.ensures.items;
      ended = part-put (λ seat. seat.ended) c.loop-seat.all_ended.items c.push_reserved-in-loop-seat-2.new.self.items _ c.in-Some.seat _ _
          c.loop-seat.invariant.ended steps c.push_reserved-in-loop-seat-2.ensures.items;
      passes_room = let before = c.loop-seat.invariant.passes_room in let more = c.push_reserved.ensures.len in
          let room = c.push_reserved.ensures.capacity in omega arith;
      ends_room = let before = c.loop-seat.invariant.ends_room in let more = c.push_reserved-in-loop-seat.ensures.len in
          let room = c.push_reserved-in-loop-seat.ensures.capacity in omega arith;
      ended_room = let before = c.loop-seat.invariant.ended_room in let more = c.push_reserved-in-loop-seat-2.ensures.len in
          let room = c.push_reserved-in-loop-seat-2.ensures.capacity in omega arith;
    }
