use Rattle.std.proofs.Common.{vec_len}
use Rattle.std.specs.Prelude.{vec_capacity}
use Rattle.expert_sessions.proofs.SeatLemmas.{room-next}
use Rattle.expert_sessions.proofs.seats.fill_seats.Goals as goal

pub push_reserved-requires : goal.push_reserved-requires
push_reserved-requires g c = room-next (vec_len c.loop-pass.seats)
    (vec_capacity c.loop-pass.seats) c.in-Some.pass _ _ c.loop-pass.invariant.room c.in-Some.ensures.steps.0
