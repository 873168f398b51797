use Rattle.std.proofs.Common.{◌∙◌, ap, sym}
use Rattle.fca_model.specs.Exploration.{held_by}
use Rattle.explore_state.proofs.ReplyLemmas.{accepted_timely}
use Rattle.explore_state.proofs.changes.after_confirmation.Goals as goal

pub accept_hold-requires : goal.accept_hold-requires
accept_hold-requires g c = λ q held. accepted_timely c.args.queue.now.known c.args.queue.now.context c.args.queue.now.accepted
    c.args.held.now.items c.args.expert c.in-Accepted.field-0 c.args.reply.now c.requires.due c.in-Accepted.is q
    (ap (held_by c.args.expert) (sym c.deref.ensures.value) ∙ held)
