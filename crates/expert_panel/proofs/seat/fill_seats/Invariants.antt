-- The passes of the seats and those still to come are all passes, and so it is with the experts; there is room for what is to come.
use Rattle.std.proofs.Common.{◌≡◌, ◌≤◌, ◌+◌, ◌++◌, map, length, vec_len}
use Rattle.std.specs.Prelude.{vec_capacity}
use Rattle.std.specs.Vec.Iter.{into_iter_items}
use Rattle.expert_panel.proofs.seat.fill_seats.Given as goal

abbrev pub invariant-loop-pass : goal.invariant-loop-pass
invariant-loop-pass g l = record {
  passes : map (λ seat. seat.pass) l.seats.items ++ into_iter_items l.pass-iterator ≡ l.fn.passes.items;
  experts : map (λ seat. seat.expert) l.seats.items ++ into_iter_items l.experts ≡ l.fn.experts.items;
  room : vec_len l.seats + length (into_iter_items l.pass-iterator) ≤ vec_capacity l.seats;
}
