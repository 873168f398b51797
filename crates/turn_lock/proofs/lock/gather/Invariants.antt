use Rattle.std.proofs.Common.{◌≡◌, All, [], false}
use Rattle.turn_lock.specs.Seats.{all_gathered}
use Rattle.turn_lock.proofs.lock.gather.Given as goal

abbrev pub invariant-loop-pass : goal.invariant-loop-pass
invariant-loop-pass g l =
    (l.seat.table_id ≡ l.fn.seat.table_id) × (l.seat.id ≡ l.fn.seat.id) × (l.seat.me.1 ≡ []) × (l.seat.me.0.number ≡ 1)
    × (l.seat.me.0.mine ≡ false)
    × All (λ p. p.lock ≡ l.fn.seat.table_id) l.pass-iterator.rest.items
    × (all_gathered l.seat.me.0 l.pass-iterator.rest.items ≡ all_gathered l.fn.seat.me.0 l.fn.passes.items)
