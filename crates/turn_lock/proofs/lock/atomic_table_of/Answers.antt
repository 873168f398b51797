use Rattle.std.proofs.Common.{refl}
use Rattle.turn_lock.proofs.StepLemmas.{opens}
use Rattle.turn_lock.proofs.lock.atomic_table_of.Goals as goal

pub new-requires : goal.new-requires
new-requires g c = rw (c.in_ok-push.ensures.items, c.new-slots.ensures.items, c.of.ensures)
    (opens g.V.Logged.base g.V.Logged.history g.V.Logged.legal g.V.Logged.by
    (g.V.Logged.base c.args.value) c.args.turns c.args.value c.requires.turns refl c.requires.new c.attest_legal.ensures)
