use Rattle.std.proofs.Common.{◌≡◌, ◌∙◌, ap, sym, subst, ◌∷◌, All, arith}
use Rattle.std.proofs.lemmas.List.Elements.{All-head, All-tail}
use Rattle.turn_lock.specs.Passes.{PassModel}
use Rattle.turn_lock.specs.Seats.{all_gathered}
use Rattle.turn_lock.proofs.StepLemmas.{joins}
use Rattle.turn_lock.proofs.MakingLemmas.{one_joins}
use Rattle.turn_lock.proofs.lock.gather.Goals as goal

pub join_seat-requires : goal.join_seat-requires
join_seat-requires g c =
    let fits = c.requires.lock in
    let key = c.args.shared.now.key in
    let i = c.loop-pass.invariant in
    let idle = c.pass.invariant.0 in
    let others = subst (All (λ (p : PassModel _ _). p.lock ≡ c.args.seat.now.table_id)) c.in-Some.ensures.steps.0 i.5 in
    let lock = All-head (λ (p : PassModel _ _). p.lock ≡ c.args.seat.now.table_id) c.in-Some.pass c.next.new.self.rest.items others in (
      i.0 ∙ fits.0,
      ap (λ k. k.lock) c.pass.view_is ∙ (lock ∙ fits.0),
      idle.holds,
      rw fits.1 (omega arith),
      joins g.V.Logged.base g.V.Logged.history g.V.Logged.legal g.V.Logged.by
          (g.V.Logged.base key.value.value) key.turns c.loop-pass.seat.id c.loop-pass.seat.me.0 c.pass.inside.seat.id
          c.pass.inside.seat.me.0
          i.3 i.4 idle.positive idle.ticket idle.mine,
    )

pub loop-pass-preserved : goal.loop-pass-preserved
loop-pass-preserved g c =
    let i = c.loop-pass.invariant in
    let e = c.join_seat.ensures in
    let idle = c.pass.invariant.0 in
    let v = ap (λ z. z.0) e.2 in
    let rest = c.next.new.self.rest.items in (
      e.0 ∙ i.0,
      e.1 ∙ i.1,
      ap (λ z. z.1) e.2 ∙ i.2,
      ap (λ w. w.number) v ∙ i.3,
      ap (λ w. w.mine) v ∙ i.4,
      All-tail (λ (p : PassModel _ _). p.lock ≡ c.args.seat.now.table_id) c.in-Some.pass rest
          (subst (All (λ (p : PassModel _ _). p.lock ≡ c.args.seat.now.table_id)) c.in-Some.ensures.steps.0 i.5),
      ap (λ w. all_gathered w rest) v ∙ (one_joins c.loop-pass.seat.me.0 c.pass.inside.seat rest idle.stands
          ∙ (ap (λ p. all_gathered c.loop-pass.seat.me.0 (p ∷ rest)) c.pass.view_is
          ∙ (ap (all_gathered c.loop-pass.seat.me.0) (sym c.in-Some.ensures.steps.0) ∙ i.6))),
    )
