use Rattle.std.proofs.Common.{sym, subst}
use Rattle.next_level.specs.Openings.{IsOpened}
use Rattle.level_queue.proofs.open_level.open_level.Goals as goal

pub returns : goal.returns
returns g c =
    let next = c.in_ok-next.next in
    subst (λ members. IsOpened c.args.rows.now c.args.rules.now next.level.size members next.ahead)
    (sym c.in_ok-new.ensures) c.in_ok-next.ensures
