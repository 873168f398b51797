use Rattle.std.proofs.Common.{◌≡◌, ◌+◌, ◌≤◌, map, length, All}
use Rattle.turn_lock.specs.Passes.{badge, badges, IsFresh}
use Rattle.turn_lock.specs.Seats.{Making}
use Rattle.turn_lock.proofs.lock.make_more.Given as goal

abbrev pub invariant-loop-i : goal.invariant-loop-i
invariant-loop-i g l =
    (l.i ≤ l.fn.passes) × (l.i ≡ length l.others.items + 1) × (l.seat.table_id ≡ l.fn.seat.table_id) × (l.seat.id ≡ l.fn.seat.id)
    × Making l.fn.turns l.i l.seat × (l.seat.me.0.base ≡ l.fn.seat.me.0.base)
    × (map badge l.others.items ≡ badges l.fn.seat.table_id l.fn.seat.me.0.base l.fn.turns 2 (length l.others.items))
    × All IsFresh l.others.items
