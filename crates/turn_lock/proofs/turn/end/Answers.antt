use Rattle.std.proofs.Common.{arith}
use Rattle.turn_lock.proofs.StepLemmas.{ends}
use Rattle.turn_lock.proofs.turn.end.Goals as goal

pub fetch_add-ended-requires : goal.fetch_add-ended-requires
fetch_add-ended-requires g c =
    let fits = c.requires.lock in
    let key = c.args.shared.now.key in
    let turn = c.requires.turn in (
      fits.0,
      rw fits.1 (omega arith),
      rw fits.2 (ends g.V.Logged.base g.V.Logged.history g.V.Logged.legal g.V.Logged.by
          (g.V.Logged.base key.value.value) key.turns c.args.seat.now.id c.args.seat.now.me turn.0
          turn.2 turn.1 turn.3 turn.4 turn.5 turn.6),
    )
