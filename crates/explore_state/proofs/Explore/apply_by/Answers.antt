use Rattle.std.proofs.Common.{◌∙◌, ap, sym, subst, arith, [], ◌∷◌, ◌++◌}
use Rattle.fca_model.specs.Exploration.{reply_to, next, state_after, events_of}
use Rattle.explore_state.specs.History.{Opening, ExploreModel, Admits, opening_state, state_of}
use Rattle.explore_state.specs.Kept.{IsDue}
use Rattle.exploration_terms.specs.Settings.{settings_of}
use Rattle.explore_state.proofs.KeptLemmas.{kept_due, kept_push, entry_put, state_moves}
use Rattle.explore_state.proofs.Explore.apply_by.Goals as goal

pub change-requires-clause-due : goal.change-requires-clause-due
change-requires-clause-due g c =
    let i = c.self.inside in
    let o : Opening = record { table = i.table; experts = i.experts; settings = settings_of i.settings } in
    subst (λ S. IsDue S i.queue.context i.queue.accepted i.held.items c.args.event c.reply_to-reply.result) (sym c.self.invariant.known)
    (kept_due o i.journal.items i.queue.context i.queue.accepted i.held.items c.self.invariant.kept c.args.event c.reply_to-reply.result
    (subst (λ (h : ExploreModel). Admits h.opening c.args.event) (sym c.self.view_is) c.requires)
    (c.reply_to-reply.ensures ∙ ap (λ h. reply_to (state_of h) c.args.event) (sym c.self.view_is)))

pub invariant_of-self-2 : goal.invariant_of-self-2
invariant_of-self-2 g c =
    let i = c.self.inside in
    let o : Opening = record { table = i.table; experts = i.experts; settings = settings_of i.settings } in
    let room = c.self.invariant.room in
    let same_room = c.in_ok-change.ensures.room in
    record {
      kept = kept_push o i.journal.items i.queue.context i.queue.accepted i.held.items c.self.invariant.kept c.args.event
          c.reply_to-reply.result
          c.push_reserved.new.self.items c.change.new.queue.context c.change.new.queue.accepted c.change.new.held.items
          (subst (λ (h : ExploreModel). Admits h.opening c.args.event) (sym c.self.view_is) c.requires)
          (c.reply_to-reply.ensures ∙ ap (λ h. reply_to (state_of h) c.args.event) (sym c.self.view_is))
          (entry_put i.journal.items c.make_room.new.journal.items c.push_reserved.new.self.items c.args.event c.reply_to-reply.result
          c.copy_of.result
          c.push_reserved.ensures.items c.in_ok-make_room.ensures.entries c.copy_of.ensures)
          (c.in_ok-change.ensures.ok (state_after (opening_state o) (events_of i.journal.items)) c.self.invariant.kept.shown);
      known = c.change.ensures.known ∙ c.self.invariant.known;
      wide = c.self.invariant.wide;
      holders = c.self.invariant.holders;
      room = omega arith;
    }

pub returns-clause-ok : goal.returns-clause-ok
returns-clause-ok g c =
    let i = c.self.inside in
    let o : Opening = record { table = i.table; experts = i.experts; settings = settings_of i.settings } in
    let more = entry_put i.journal.items c.make_room.new.journal.items c.push_reserved.new.self.items c.args.event c.reply_to-reply.result
    c.copy_of.result
    c.push_reserved.ensures.items c.in_ok-make_room.ensures.entries c.copy_of.ensures in
    record {
      reply = c.reply_to-reply.ensures;
      journal = more ∙ ap (λ (h : ExploreModel). h.journal ++ record { event = c.args.event; reply = c.reply_to-reply.result } ∷ [])
          c.self.view_is;
      state = state_moves (opening_state o) i.journal.items c.push_reserved.new.self.items c.args.event c.reply_to-reply.result more
          ∙ ap (λ h. next (state_of h) c.args.event) c.self.view_is;
      opening = ap (λ (h : ExploreModel). h.opening) c.self.view_is;
    }
