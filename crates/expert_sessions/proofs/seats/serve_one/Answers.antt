use Rattle.std.proofs.Common.{rules}
use Rattle.expert_sessions.specs.Moves.{end_state_of}
use Rattle.expert_sessions.specs.Order.{ReadsWhereAnswered}
use Rattle.expert_sessions.proofs.ServingLemmas.{same_badge, at_number, at_pass}
use Rattle.expert_sessions.proofs.seats.serve_one.Goals as goal

pub returns-clause-talk : goal.returns-clause-talk
returns-clause-talk g c =
    let place = c.session.ensures.desk.same.place in
    at_pass c.args.terms.now.table c.number-expert.result c.args.terms.now.lines
    (end_state_of g.E.Source.left g.E.Sink.held g.E.Source.faults g.E.Sink.faults c.args.end.now)
    (end_state_of g.E.Source.left g.E.Sink.held g.E.Source.faults g.E.Sink.faults c.session.new.end)
    c.args.pass.now c.session.new.desk.pass.now c.pass-1.given.0 c.args.gate.now c.session.result
    c.session.ensures.talk c.session.ensures.turns c.requires.lock c.requires.fresh c.session.ensures.desk.same.lock c.number-expert.ensures
    c.requires.terms.turns (search rules)

pub returns-clause-order : goal.returns-clause-order
returns-clause-order g c =
    let place = c.session.ensures.desk.same.place in
    at_number (λ n. ReadsWhereAnswered g.E.Source.left g.E.Sink.held g.E.Source.reads g.E.Source.faults g.E.Sink.faults c.args.terms.now.table n
    c.args.end.now c.session.new.end)
    c.number-expert.result c.args.pass.now c.session.new.desk.pass.now c.pass-1.given.0 c.session.ensures.order
    c.session.ensures.desk.same.lock c.number-expert.ensures (search rules)

pub returns-clause-same : goal.returns-clause-same
returns-clause-same g c =
    let place = c.session.ensures.desk.same.place in
    same_badge c.args.pass.now c.session.new.desk.pass.now c.pass-1.given.0 c.session.ensures.desk.same.lock (search rules)

pub session-requires-clause-width : goal.session-requires-clause-width
session-requires-clause-width g c = c.requires.terms.width
