use Rattle.std.proofs.Common.{◌∙◌, ap, sym, subst, arith}
use Rattle.std.specs.Prelude.{OnOk}
use Rattle.fca_model.specs.Exploration.{after, given_back}
use Rattle.explore_state.specs.Kept.{IsShown, IsDue}
use Rattle.explore_state.proofs.ReplyLemmas.{draw_room, taken_respects}
use Rattle.explore_state.proofs.changes.change.Goals as goal

pub after_draw-requires : goal.after_draw-requires
after_draw-requires g c =
    let few = draw_room c.args.queue.now.known c.args.queue.now.context c.args.queue.now.accepted c.args.held.now.items c.in-Draw.expert
    c.args.reply.now
    (subst (λ event. IsDue c.args.queue.now.known c.args.queue.now.context c.args.queue.now.accepted c.args.held.now.items event
    c.args.reply.now) c.in-Draw.is c.requires.due) in
    let room = c.requires.room in
    record { room = omega arith }

pub after_row-requires-clause-respecting : goal.after_row-requires-clause-respecting
after_row-requires-clause-respecting g c = λ k is. taken_respects c.args.queue.now.known c.args.queue.now.context c.args.queue.now.accepted
    c.args.held.now.items c.in-Row.expert k c.in-Row.name c.in-Row.row c.args.reply.now
    (subst (λ event. IsDue c.args.queue.now.known c.args.queue.now.context c.args.queue.now.accepted c.args.held.now.items event
    c.args.reply.now) c.in-Row.is c.requires.due) is

pub returns-in-Draw-clause-ok : goal.returns-in-Draw-clause-ok
unfolding after
returns-in-Draw-clause-ok g c = λ s shown.
    subst (λ event. IsShown (after s event c.args.reply.now) c.args.queue.now.context c.args.queue.now.accepted c.after_draw.new.held.items)
    (sym c.in-Draw.is)
    (c.after_draw.ensures.shown s c.args.queue.now.context c.args.queue.now.accepted shown)

pub returns-in-Confirm-clause-ok : goal.returns-in-Confirm-clause-ok
unfolding after
returns-in-Confirm-clause-ok g c = λ s shown.
    subst (λ event. OnOk c.after_confirmation.result
    (IsShown (after s event c.args.reply.now) c.after_confirmation.new.queue.context c.after_confirmation.new.queue.accepted
    c.after_confirmation.new.held.items)) (sym c.in-Confirm.is)
    (c.after_confirmation.ensures.ok s shown)

pub returns-in-Row-clause-ok : goal.returns-in-Row-clause-ok
unfolding after
returns-in-Row-clause-ok g c = λ s shown.
    subst (λ event. OnOk c.after_row.result (IsShown
    (after s event c.args.reply.now) c.after_row.new.queue.context c.after_row.new.queue.accepted c.after_row.new.held.items))
    (sym c.in-Row.is)
    (c.after_row.ensures.ok s c.in-Row.name shown)

pub returns-in-Leave-clause-ok : goal.returns-in-Leave-clause-ok
unfolding after
returns-in-Leave-clause-ok g c = λ s shown.
    subst (λ event. IsShown (after s event c.args.reply.now) c.args.queue.now.context c.args.queue.now.accepted c.give_back.new.held.items)
    (sym c.in-Leave.is)
    (record {
      context = shown.context;
      accepted = shown.accepted;
      held = ap (given_back c.in-Leave.expert) shown.held ∙ sym c.give_back.ensures.held;
    })
