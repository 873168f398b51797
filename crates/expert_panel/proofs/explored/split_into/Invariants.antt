-- What the lists hold, and what the seats still to come hold, is what all seats hold; there is room for what is to come.
use Rattle.std.proofs.Common.{◌≡◌, ◌≤◌, ◌+◌, ◌++◌, map, length, vec_len}
use Rattle.std.specs.Prelude.{vec_capacity}
use Rattle.std.specs.Vec.Iter.{into_iter_items}
use Rattle.expert_panel.proofs.explored.split_into.Given as goal

abbrev pub invariant-loop-seat : goal.invariant-loop-seat
invariant-loop-seat l = record {
  passes : l.passes.items ++ map (λ seat. seat.pass) (into_iter_items l.seat-iterator) ≡ map (λ seat. seat.pass) l.fn.seats.items;
  experts : l.oracles.items ++ map (λ seat. seat.expert) (into_iter_items l.seat-iterator) ≡ map (λ seat. seat.expert) l.fn.seats.items;
  passes_room : vec_len l.passes + length (into_iter_items l.seat-iterator) ≤ vec_capacity l.passes;
  experts_room : vec_len l.oracles + length (into_iter_items l.seat-iterator) ≤ vec_capacity l.oracles;
}
