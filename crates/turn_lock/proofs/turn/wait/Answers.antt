use Rattle.std.proofs.Common.{subst}
use Rattle.turn_lock.specs.Steps.{HasTurn}
use Rattle.turn_lock.proofs.turn.wait.Goals as goal

pub returns-then-has_come-clause-turn : goal.returns-then-has_come-clause-turn
returns-then-has_come-clause-turn g c =
    subst (λ m. HasTurn g.V.Logged.base g.V.Logged.history g.V.Logged.legal g.V.Logged.by m c.has_come.new.seat.me) c.loop.invariant.4
    c.if-has_come.ensures.come
