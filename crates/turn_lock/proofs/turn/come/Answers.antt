use Rattle.std.proofs.Common.{arith}
use Rattle.turn_lock.proofs.StepLemmas.{comes}
use Rattle.turn_lock.proofs.turn.come.Goals as goal

pub load-requires : goal.load-requires
load-requires g c =
    let fits = c.requires.lock in
    let key = c.args.shared.now.key in (
      fits.0,
      rw fits.1 (omega arith),
      rw fits.2 (comes g.V.Logged.base g.V.Logged.history g.V.Logged.legal g.V.Logged.by
          (g.V.Logged.base key.value.value) key.turns c.args.seat.now.id c.args.seat.now.me
          c.requires.waits.0 c.requires.waits.1),
    )
