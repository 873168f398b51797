use Rattle.std.proofs.Common.{arith}
use Rattle.turn_lock.proofs.StepLemmas.{draws}
use Rattle.turn_lock.proofs.turn.draw_ticket.Goals as goal

pub fetch_add-requires : goal.fetch_add-requires
fetch_add-requires g c =
    let fits = c.requires.lock in
    let idle = c.requires.idle in
    let key = c.args.shared.now.key in (
      fits.0,
      rw fits.1 (omega arith),
      rw fits.2 (draws g.V.Logged.base g.V.Logged.history g.V.Logged.legal g.V.Logged.by
          (g.V.Logged.base key.value.value) key.turns c.args.seat.now.id c.args.seat.now.me
          idle.positive idle.ticket idle.mine c.requires.left),
    )
