use Rattle.std.proofs.Common.{subst}
use Rattle.expert_sessions.specs.Moves.{end_state_of}
use Rattle.expert_sessions.specs.Courses.{SendsText}
use Rattle.expert_sessions.proofs.LineLemmas.{writes-from, reads-kept}
use Rattle.expert_sessions.proofs.said.write_line.Goals as goal

pub returns-clause-written : goal.returns-clause-written
returns-clause-written g c =
    subst (λ z. SendsText
    (end_state_of g.E.Source.left g.E.Sink.held g.E.Source.faults g.E.Sink.faults c.args.end.now)
    (end_state_of g.E.Source.left g.E.Sink.held g.E.Source.faults g.E.Sink.faults c.write_text.new.sink)
    z c.write_text.result) c.as_bytes.ensures.value (writes-from
    (end_state_of g.E.Source.left g.E.Sink.held g.E.Source.faults g.E.Sink.faults c.args.end.now)
    (end_state_of g.E.Source.left g.E.Sink.held g.E.Source.faults g.E.Sink.faults c.write_text.new.sink)
    c.as_bytes.result.now c.write_text.result
    (g.E.Sink.beside c.args.end.now) (g.E.Sink.beside c.write_text.new.sink) (g.E.Source.reads c.args.end.now)
    (g.E.Source.reads c.write_text.new.sink) (g.E.Sink.read_counts_beside c.args.end.now) (g.E.Sink.read_counts_beside c.write_text.new.sink)
    c.write_text.ensures.whole c.write_text.ensures.front c.write_text.ensures.quiet c.write_text.ensures.failed c.write_text.ensures.only_rise
    c.write_text.ensures.beside c.write_text.ensures.same_beside
    (g.met.E.Duplex.left_beside c.args.end.now) (g.met.E.Duplex.left_beside c.write_text.new.sink)
    (g.met.E.Duplex.reads_beside c.args.end.now) (g.met.E.Duplex.reads_beside c.write_text.new.sink))

pub returns-clause-unread : goal.returns-clause-unread
returns-clause-unread g c = reads-kept (g.E.Source.reads c.args.end.now) (g.E.Source.reads c.write_text.new.sink)
    (g.E.Source.faults c.args.end.now) (g.E.Source.faults c.write_text.new.sink)
    (g.E.Sink.read_counts_beside c.args.end.now) (g.E.Sink.read_counts_beside c.write_text.new.sink) c.write_text.ensures.same_beside
    (g.met.E.Duplex.reads_beside c.args.end.now) (g.met.E.Duplex.reads_beside c.write_text.new.sink)
