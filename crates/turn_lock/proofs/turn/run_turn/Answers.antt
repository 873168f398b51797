use Rattle.std.proofs.Common.{◌≡◌, [], ◌∙◌, ap, sym, refl, subst, ℕ, ◌∷◌, Some}
use Rattle.atomic_table.specs.Table.{rest}
use Rattle.turn_lock.specs.Histories.{own_of, StartsWith}
use Rattle.turn_lock.specs.Seats.{pass_of}
use Rattle.turn_lock.specs.Steps.{SeesValue}
use Rattle.turn_lock.proofs.EntryLemmas.{grows, enters}
use Rattle.turn_lock.proofs.ValueLemmas.{shown_now}
use Rattle.turn_lock.proofs.turn.run_turn.Given.{Over}
use Rattle.turn_lock.proofs.turn.run_turn.Goals as goal
use Rattle.turn_lock.proofs.turn.run_turn.Goals.{After-slot_mut}

-- what the pass is shown in the slot as its turn has come
there : (g : Over) (c : After-slot_mut g) → (c.wait.new.seat.me.1 ≡ (0, c.slot_mut.result.now) ∷ [])
    × SeesValue g.V.Logged.base g.V.Logged.history g.V.Logged.legal g.V.Logged.by c.draw_ticket-ticket.new.seat.me.0 c.slot_mut.result.now
    c.wait.new.seat.me.0
there g c =
    let V = g.V.Logged in
    shown_now V.base V.history V.legal V.by c.draw_ticket-ticket.new.seat.me c.wait.new.seat.me c.slot_mut.result.now
    c.wait.ensures.turn (c.draw_ticket-ticket.ensures.drew.0 ∙ c.requires.idle.holds) c.slot_mut.ensures.value

pub end-requires-clause-turn : goal.end-requires-clause-turn
end-requires-clause-turn g c κs within =
    let V = g.V.Logged in
    let drew = c.draw_ticket-ticket.ensures.drew in
    let did = c.apply-reply.ensures in
    let found = there g (goal.at.end-requires-clause-turn g c).After-slot_mut in
    let shown = found.1 in
    let number = ap (λ v. v.number) shown.4 ∙ ap (λ v. v.number) drew.1 in (
      c.apply-reply.new.value,
      ap (λ l. (0, c.apply-reply.new.value) ∷ rest l) found.0,
      rw number c.requires.idle.positive,
      ap (λ v. v.mine) shown.4,
      ap (λ v. v.base) shown.4 ∙ (shown.0 ∙ ap Some (sym did.base)),
      did.legal,
      grows V.legal V.by (V.entry c.args.event) c.apply-reply.result (V.history c.slot_mut.result.now)
          (V.history c.apply-reply.new.value) c.wait.new.seat.me.0.number c.wait.new.seat.me.0.seen
          (ap (λ v. v.seen) shown.4) (λ reply. V.by_entry c.args.event reply ∙ (c.requires.number ∙ sym number)) did.entry did.memory,
    )

pub returns-clause-entry : goal.returns-clause-entry
returns-clause-entry g c =
    let V = g.V.Logged in
    let drew = c.draw_ticket-ticket.ensures.drew in
    let did = c.apply-reply.ensures in
    let found = there g (goal.at.returns-clause-entry g c).After-slot_mut in
    let shown = found.1 in
    let last = (c.end.ensures.ended c.apply-reply.new.value (ap (λ l. (0, c.apply-reply.new.value) ∷ rest l) found.0)).1 in
    let number = ap (λ v. v.number) shown.4 ∙ ap (λ v. v.number) drew.1 in
    let log = V.history c.slot_mut.result.now in
    enters V.legal V.by (V.entry c.args.event) c.apply-reply.result log (V.history c.apply-reply.new.value)
    (pass_of c.args.seat.now) (pass_of c.end.new.seat) (V.base c.apply-reply.new.value) c.args.seat.now.me.0.base
    (sym (ap (λ v. v.base) drew.1) ∙ (shown.0 ∙ ap Some (sym did.base))) did.legal
    (subst (StartsWith log) (ap (λ v. v.seen) drew.1) shown.2)
    (sym (ap (λ v. v.own) drew.1) ∙ (shown.3 ∙ ap (λ (n : ℕ). own_of V.by n log) (ap (λ v. v.number) drew.1)))
    (λ reply. V.by_entry c.args.event reply ∙ c.requires.number)
    (ap (λ v. v.seen) last) (ap (λ v. v.number) last ∙ number) (ap (λ v. v.own) last ∙ rw number refl)
    (ap (λ v. v.drawn) last ∙ (ap (λ v. v.drawn) shown.4 ∙ ap (λ v. v.drawn) drew.1)) did.entry
