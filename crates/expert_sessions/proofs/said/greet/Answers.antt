use Rattle.expert_wire.specs.Greetings.{greeting}
use Rattle.expert_sessions.specs.Moves.{end_state_of}
use Rattle.expert_sessions.proofs.LineLemmas.{writes-from, reads-kept}
use Rattle.expert_sessions.proofs.said.greet.Goals as goal

pub returns-clause-written : goal.returns-clause-written
returns-clause-written g c = writes-from
    (end_state_of g.E.Source.left g.E.Sink.held g.E.Source.faults g.E.Sink.faults c.args.end.now)
    (end_state_of g.E.Source.left g.E.Sink.held g.E.Source.faults g.E.Sink.faults c.write_greeting.new.sink)
    (greeting c.args.table.now c.args.expert) c.write_greeting.result
    (g.E.Sink.beside c.args.end.now) (g.E.Sink.beside c.write_greeting.new.sink) (g.E.Source.reads c.args.end.now)
    (g.E.Source.reads c.write_greeting.new.sink) (g.E.Sink.read_counts_beside c.args.end.now)
    (g.E.Sink.read_counts_beside c.write_greeting.new.sink)
    c.write_greeting.ensures.whole c.write_greeting.ensures.front c.write_greeting.ensures.quiet c.write_greeting.ensures.failed
    c.write_greeting.ensures.only_rise
    c.write_greeting.ensures.beside c.write_greeting.ensures.same_beside
    (g.met.E.Duplex.left_beside c.args.end.now) (g.met.E.Duplex.left_beside c.write_greeting.new.sink)
    (g.met.E.Duplex.reads_beside c.args.end.now) (g.met.E.Duplex.reads_beside c.write_greeting.new.sink)

pub returns-clause-unread : goal.returns-clause-unread
returns-clause-unread g c = reads-kept (g.E.Source.reads c.args.end.now) (g.E.Source.reads c.write_greeting.new.sink)
    (g.E.Source.faults c.args.end.now) (g.E.Source.faults c.write_greeting.new.sink)
    (g.E.Sink.read_counts_beside c.args.end.now) (g.E.Sink.read_counts_beside c.write_greeting.new.sink) c.write_greeting.ensures.same_beside
    (g.met.E.Duplex.reads_beside c.args.end.now) (g.met.E.Duplex.reads_beside c.write_greeting.new.sink)
