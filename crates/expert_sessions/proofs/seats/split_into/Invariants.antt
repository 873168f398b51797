-- What the lists hold, and what the seats still to come hold, is what all seats hold; there is room for what is to come.
use Rattle.std.proofs.Common.{◌≡◌, ◌≤◌, ◌+◌, ◌++◌, map, length, vec_len}
use Rattle.std.specs.Prelude.{vec_capacity}
use Rattle.std.specs.Vec.Iter.{into_iter_items}
use Rattle.expert_sessions.proofs.seats.split_into.Given as goal

abbrev pub invariant-loop-seat : goal.invariant-loop-seat
invariant-loop-seat g l = record {
  passes : l.passes.items ++ map (λ seat. seat.pass) (into_iter_items l.seat-iterator) ≡ map (λ seat. seat.pass) l.fn.seats.items;
  ends : l.ends.items ++ map (λ seat. seat.end) (into_iter_items l.seat-iterator) ≡ map (λ seat. seat.end) l.fn.seats.items;
  ended : l.all_ended.items ++ map (λ seat. seat.ended) (into_iter_items l.seat-iterator) ≡ map (λ seat. seat.ended) l.fn.seats.items;
  passes_room : vec_len l.passes + length (into_iter_items l.seat-iterator) ≤ vec_capacity l.passes;
  ends_room : vec_len l.ends + length (into_iter_items l.seat-iterator) ≤ vec_capacity l.ends;
  ended_room : vec_len l.all_ended + length (into_iter_items l.seat-iterator) ≤ vec_capacity l.all_ended;
}
