-- The expert was greeted, and some lines were served that are not `quit`, each before more was read; the desk is still the same.
use Rattle.std.proofs.Common.{◌≡◌}
use Rattle.expert_gate.specs.Desks.{Works}
use Rattle.expert_sessions.specs.Moves.{end_state_of, desk_progress_of}
use Rattle.expert_sessions.specs.Courses.{Goes}
use Rattle.expert_sessions.specs.Order.{ReadsWhereAnswered}
use Rattle.expert_sessions.proofs.talk.serve_lines.Given as goal

abbrev pub invariant-loop-count : goal.invariant-loop-count
invariant-loop-count g l = record {
  goes : Goes l.table l.expert
      (end_state_of g.E.Source.left g.E.Sink.held g.E.Source.faults g.E.Sink.faults l.fn.end)
      (end_state_of g.E.Source.left g.E.Sink.held g.E.Source.faults g.E.Sink.faults l.end)
      (desk_progress_of (g.D.Desk.state l.fn.desk))
      (desk_progress_of (g.D.Desk.state l.desk))
      l.ahead l._count;
  order : ReadsWhereAnswered g.E.Source.left g.E.Sink.held g.E.Source.reads g.E.Source.faults g.E.Sink.faults l.table l.expert l.fn.end l.end;
  desk : Works (g.D.Desk.state l.fn.desk) (g.D.Desk.state l.desk);
  attributes : g.D.Wide.attribute_count l.desk ≡ g.D.Wide.attribute_count l.fn.desk;
}
