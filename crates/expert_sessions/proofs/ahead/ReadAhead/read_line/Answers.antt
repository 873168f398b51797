use Rattle.std.proofs.Common.{rules, refl}
use Rattle.expert_sessions.specs.Moves.{end_state_of}
use Rattle.expert_sessions.specs.Lines.{HasNoFeed}
use Rattle.expert_sessions.proofs.MoveLemmas.{ReadsOn-nil, ReadsOn-trans}
use Rattle.expert_sessions.proofs.OrderLemmas.{unread, read_on}
use Rattle.expert_sessions.proofs.ahead.ReadAhead.read_line.Goals as goal

pub loop-at-init : goal.loop-at-init
loop-at-init g c = record {
  read = ReadsOn-nil (end_state_of g.E.Source.left g.E.Sink.held g.E.Source.faults g.E.Sink.faults c.args.end.now) c.args.self.now;
  order = unread g.E.Source.left g.E.Sink.held g.E.Source.reads g.E.Source.faults g.E.Sink.faults c.args.self.now c.args.end.now;
  quiet = refl;
}

pub loop-at-preserved : goal.loop-at-preserved
loop-at-preserved g c =
    let none : HasNoFeed c.loop-at.self = search rules in
    record {
      read = ReadsOn-trans c.loop-at.invariant.read c.read.ensures.read;
      order = read_on g.E.Source.left g.E.Sink.held g.E.Source.reads g.E.Source.faults g.E.Sink.faults c.args.self.now c.loop-at.self
          c.read.new.self
          c.args.end.now c.loop-at.end c.read.new.end c.loop-at.invariant.order c.loop-at.invariant.read none c.read.ensures.read
          c.read.ensures.counted;
      quiet = search rules;
    }

pub returns-in-Ok-eq0-clause-read : goal.returns-in-Ok-eq0-clause-read
returns-in-Ok-eq0-clause-read g c = ReadsOn-trans c.loop-at.invariant.read c.read.ensures.read

pub returns-in-Ok-eq0-clause-order : goal.returns-in-Ok-eq0-clause-order
returns-in-Ok-eq0-clause-order g c =
    let none : HasNoFeed c.loop-at.self = search rules in
    read_on g.E.Source.left g.E.Sink.held g.E.Source.reads g.E.Source.faults g.E.Sink.faults c.args.self.now c.loop-at.self c.read.new.self
    c.args.end.now c.loop-at.end c.read.new.end c.loop-at.invariant.order c.loop-at.invariant.read none c.read.ensures.read
    c.read.ensures.counted

pub returns-in-Err-clause-read : goal.returns-in-Err-clause-read
returns-in-Err-clause-read g c = ReadsOn-trans c.loop-at.invariant.read c.read.ensures.read

pub returns-in-Err-clause-order : goal.returns-in-Err-clause-order
returns-in-Err-clause-order g c =
    let none : HasNoFeed c.loop-at.self = search rules in
    read_on g.E.Source.left g.E.Sink.held g.E.Source.reads g.E.Source.faults g.E.Sink.faults c.args.self.now c.loop-at.self c.read.new.self
    c.args.end.now c.loop-at.end c.read.new.end c.loop-at.invariant.order c.loop-at.invariant.read none c.read.ensures.read
    c.read.ensures.counted
