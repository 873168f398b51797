-- What was read so far stands behind what was read ahead before, and no read failed. The end was read only where the line was not whole.
-- Each read that isn't the last one lengthens it.
use Rattle.std.proofs.Common.{◌≡◌, ◌+◌, ◌-◌, length}
use Rattle.fca_model.specs.declared.TheConstants.{LINE_BYTES}
use Rattle.expert_sessions.specs.Moves.{end_state_of}
use Rattle.expert_sessions.specs.Courses.{ReadsOn}
use Rattle.expert_sessions.specs.Order.{ReadsForLine}
use Rattle.expert_sessions.proofs.ahead.ReadAhead.read_line.Given as goal

abbrev pub invariant-loop-at : goal.invariant-loop-at
invariant-loop-at g l = record {
  read : ReadsOn
      (end_state_of g.E.Source.left g.E.Sink.held g.E.Source.faults g.E.Sink.faults l.initial.end)
      (end_state_of g.E.Source.left g.E.Sink.held g.E.Source.faults g.E.Sink.faults l.end)
      l.initial.self l.self;
  order : ReadsForLine g.E.Source.left g.E.Sink.held g.E.Source.reads g.E.Source.faults g.E.Sink.faults l.initial.self l.initial.end l.end;
  quiet : g.E.Source.faults l.end ≡ g.E.Source.faults l.initial.end;
}

abbrev pub decreases-loop-at : goal.decreases-loop-at
decreases-loop-at g l = LINE_BYTES + 1 - length l.self
