use Rattle.std.proofs.Common.{ap, subst, rules, ◌<◌}
use Rattle.turn_lock.specs.Passes.{Lock}
use Rattle.turn_lock.proofs.ClosingLemmas.{whole, rest_of_lock, settled}
use Rattle.turn_lock.proofs.lock.TurnLock.close.Goals as goal

pub gather-requires-clause-others : goal.gather-requires-clause-others
gather-requires-clause-others g c κs within =
    let first = c.first.inside.seat in
    let rest = c.remove-first.new.self.items in
    let all = c.args.passes.items in
    rest_of_lock c.args.self first rest all (whole c.args.self all rest c.remove-first.result first c.requires.passes
    c.remove-first.ensures.value c.remove-first.ensures.items c.first.view_is) c.requires.passes

pub take-value-requires : goal.take-value-requires
take-value-requires g c = (search rules, search rules)

pub returns-clause-base : goal.returns-clause-base
returns-clause-base g c =
    let table = c.self.inside.table.shared in
    let first = c.first.inside.seat in
    let idle = c.first.invariant.0 in
    let rest = c.remove-first.new.self.items in
    let all = c.args.passes.items in
    let these = whole c.args.self all rest c.remove-first.result first c.requires.passes c.remove-first.ensures.value
    c.remove-first.ensures.items c.first.view_is in
    let q = settled g.V.Logged.base g.V.Logged.history g.V.Logged.legal g.V.Logged.by
    (g.V.Logged.base table.key.value.value) table.key.turns c.gather.new.seat.id c.args.self first rest all c.gather.new.seat.me _ _
    c.take-value.result
    c.close_with-closed.ensures.values.2 c.gather.ensures.gathered c.take-value.ensures.value idle.mine idle.stands these c.requires.passes
    (subst (λ (l : Lock _). 0 < l.passes) c.self.view_is c.self.invariant.2) (ap (λ (l : Lock _). l.base) c.self.view_is) in
    q.0

pub returns-clause-entries : goal.returns-clause-entries
returns-clause-entries g c =
    let table = c.self.inside.table.shared in
    let first = c.first.inside.seat in
    let idle = c.first.invariant.0 in
    let rest = c.remove-first.new.self.items in
    let all = c.args.passes.items in
    let these = whole c.args.self all rest c.remove-first.result first c.requires.passes c.remove-first.ensures.value
    c.remove-first.ensures.items c.first.view_is in
    let q = settled g.V.Logged.base g.V.Logged.history g.V.Logged.legal g.V.Logged.by
    (g.V.Logged.base table.key.value.value) table.key.turns c.gather.new.seat.id c.args.self first rest all c.gather.new.seat.me _ _
    c.take-value.result
    c.close_with-closed.ensures.values.2 c.gather.ensures.gathered c.take-value.ensures.value idle.mine idle.stands these c.requires.passes
    (subst (λ (l : Lock _). 0 < l.passes) c.self.view_is c.self.invariant.2) (ap (λ (l : Lock _). l.base) c.self.view_is) in
    q.1
