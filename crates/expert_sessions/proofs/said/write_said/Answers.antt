use Rattle.expert_wire.specs.Replies.{reply_line}
use Rattle.expert_sessions.specs.Moves.{end_state_of}
use Rattle.expert_sessions.proofs.LineLemmas.{writes-from, reads-kept}
use Rattle.expert_sessions.proofs.said.write_said.Goals as goal

pub returns-in-Replied-clause-written : goal.returns-in-Replied-clause-written
returns-in-Replied-clause-written g c = rw c.in-Replied.is (writes-from
    (end_state_of g.E.Source.left g.E.Sink.held g.E.Source.faults g.E.Sink.faults c.args.end.now)
    (end_state_of g.E.Source.left g.E.Sink.held g.E.Source.faults g.E.Sink.faults c.write_at_once.new.sink)
    (reply_line c.args.table.now.attributes c.in-Replied.reply) c.write_at_once.result
    (g.E.Sink.beside c.args.end.now) (g.E.Sink.beside c.write_at_once.new.sink) (g.E.Source.reads c.args.end.now)
    (g.E.Source.reads c.write_at_once.new.sink) (g.E.Sink.read_counts_beside c.args.end.now) (g.E.Sink.read_counts_beside c.write_at_once.new.sink)
    c.write_at_once.ensures.whole c.write_at_once.ensures.front c.write_at_once.ensures.quiet c.write_at_once.ensures.failed
    c.write_at_once.ensures.only_rise c.write_at_once.ensures.beside c.write_at_once.ensures.same_beside
    (g.met.E.Duplex.left_beside c.args.end.now) (g.met.E.Duplex.left_beside c.write_at_once.new.sink)
    (g.met.E.Duplex.reads_beside c.args.end.now) (g.met.E.Duplex.reads_beside c.write_at_once.new.sink))

pub returns-in-Replied-clause-unread : goal.returns-in-Replied-clause-unread
returns-in-Replied-clause-unread g c = reads-kept (g.E.Source.reads c.args.end.now) (g.E.Source.reads c.write_at_once.new.sink)
    (g.E.Source.faults c.args.end.now) (g.E.Source.faults c.write_at_once.new.sink)
    (g.E.Sink.read_counts_beside c.args.end.now) (g.E.Sink.read_counts_beside c.write_at_once.new.sink) c.write_at_once.ensures.same_beside
    (g.met.E.Duplex.reads_beside c.args.end.now) (g.met.E.Duplex.reads_beside c.write_at_once.new.sink)
