use Rattle.std.proofs.Common.{rules, ◌≡◌, refl, true, false}
use Rattle.std.specs.Prelude.{is_err}
use Rattle.std.proofs.Common.{sym, subst, ◌∙◌, arith}
use Rattle.expert_gate.proofs.DeskLemmas.{Works-nil, Works-trans}
use Rattle.expert_sessions.specs.Moves.{end_state_of, desk_progress_of}
use Rattle.expert_sessions.specs.Courses.{Serves, Halts, Goes}
use Rattle.expert_sessions.proofs.CourseLemmas.{ungreeted, greeted, one_more_line, halted, limited}
use Rattle.expert_sessions.proofs.OrderLemmas.{greeted-first, line-in_turn}
use Rattle.expert_sessions.proofs.talk.serve_lines.Goals as goal

pub returns-then-is_err-clause-served : goal.returns-then-is_err-clause-served
returns-then-is_err-clause-served g c =
    let failed : is_err c.greet.result ≡ true = cc (c.is_err.ensures.value, c.if-is_err.true) in
    ungreeted c.args.table.now c.args.expert c.args.lines
    (end_state_of g.E.Source.left g.E.Sink.held g.E.Source.faults g.E.Sink.faults c.args.end.now)
    (end_state_of g.E.Source.left g.E.Sink.held g.E.Source.faults g.E.Sink.faults c.greet.new.end)
    (desk_progress_of (g.D.Desk.state c.args.desk.now))
    c.greet.result c.greet.ensures.written failed

pub returns-then-is_err-clause-order : goal.returns-then-is_err-clause-order
returns-then-is_err-clause-order g c = greeted-first g.E.Source.left g.E.Sink.held g.E.Source.reads g.E.Source.faults g.E.Sink.faults
    c.args.table.now c.args.expert
    c.args.end.now c.greet.new.end _ c.greet.result c.greet.ensures.written c.greet.ensures.unread

pub loop-count-init : goal.loop-count-init
loop-count-init g c =
    let ok : is_err c.greet.result ≡ false = cc (c.is_err.ensures.value, c.if-is_err.false) in
    let start = greeted c.args.table.now c.args.expert
    (end_state_of g.E.Source.left g.E.Sink.held g.E.Source.faults g.E.Sink.faults c.args.end.now)
    (end_state_of g.E.Source.left g.E.Sink.held g.E.Source.faults g.E.Sink.faults c.greet.new.end)
    (desk_progress_of (g.D.Desk.state c.args.desk.now))
    c.greet.result c.greet.ensures.written ok in
    record {
      goes = subst (λ z. Goes c.args.table.now c.args.expert
          (end_state_of g.E.Source.left g.E.Sink.held g.E.Source.faults g.E.Sink.faults c.args.end.now)
          (end_state_of g.E.Source.left g.E.Sink.held g.E.Source.faults g.E.Sink.faults c.greet.new.end)
          (desk_progress_of (g.D.Desk.state c.args.desk.now))
          (desk_progress_of (g.D.Desk.state c.args.desk.now))
          z 0) (sym c.requires.none) start;
      order = greeted-first g.E.Source.left g.E.Sink.held g.E.Source.reads g.E.Source.faults g.E.Sink.faults c.args.table.now c.args.expert
          c.args.end.now c.greet.new.end _ c.greet.result c.greet.ensures.written c.greet.ensures.unread;
      desk = Works-nil (g.D.Desk.state c.args.desk.now);
      attributes = refl;
    }

pub loop-count-preserved : goal.loop-count-preserved
loop-count-preserved g c =
    let same : (g.D.Desk.state c.loop-count.desk).number ≡ c.args.expert = c.loop-count.invariant.desk.same.number
    ∙ sym c.requires.expert in
    let served = subst (λ e. Serves c.args.table.now e
    (end_state_of g.E.Source.left g.E.Sink.held g.E.Source.faults g.E.Sink.faults c.loop-count.end)
    (end_state_of g.E.Source.left g.E.Sink.held g.E.Source.faults g.E.Sink.faults c.serve_line.new.end)
    (desk_progress_of (g.D.Desk.state c.loop-count.desk))
    (desk_progress_of (g.D.Desk.state c.serve_line.new.desk))
    c.loop-count.ahead c.serve_line.new.ahead) same c.in_default.ensures.served in
    record {
      goes = one_more_line c.args.table.now c.args.expert
          (end_state_of g.E.Source.left g.E.Sink.held g.E.Source.faults g.E.Sink.faults c.args.end.now)
          (end_state_of g.E.Source.left g.E.Sink.held g.E.Source.faults g.E.Sink.faults c.loop-count.end)
          (end_state_of g.E.Source.left g.E.Sink.held g.E.Source.faults g.E.Sink.faults c.serve_line.new.end)
          (desk_progress_of (g.D.Desk.state c.args.desk.now))
          (desk_progress_of (g.D.Desk.state c.loop-count.desk))
          (desk_progress_of (g.D.Desk.state c.serve_line.new.desk))
          c.loop-count.ahead c.serve_line.new.ahead c.loop-count._count c.loop-count.invariant.goes served;
      order = line-in_turn g.E.Source.left g.E.Sink.held g.E.Source.reads g.E.Source.faults g.E.Sink.faults c.args.table.now c.args.expert
          c.args.end.now c.loop-count.end c.serve_line.new.end
          (desk_progress_of (g.D.Desk.state c.args.desk.now))
          (desk_progress_of (g.D.Desk.state c.loop-count.desk))
          c.loop-count.ahead c.loop-count._count c.loop-count.invariant.order c.loop-count.invariant.goes c.serve_line.ensures.order;
      desk = Works-trans c.loop-count.invariant.desk c.serve_line.ensures.desk;
      attributes = search rules;
    }

pub returns-in-Err-clause-served : goal.returns-in-Err-clause-served
returns-in-Err-clause-served g c =
    let same : (g.D.Desk.state c.loop-count.desk).number ≡ c.args.expert = c.loop-count.invariant.desk.same.number
    ∙ sym c.requires.expert in
    let at = subst (λ e. Halts c.args.table.now e
    (end_state_of g.E.Source.left g.E.Sink.held g.E.Source.faults g.E.Sink.faults c.loop-count.end)
    (end_state_of g.E.Source.left g.E.Sink.held g.E.Source.faults g.E.Sink.faults c.serve_line.new.end)
    (desk_progress_of (g.D.Desk.state c.loop-count.desk))
    (desk_progress_of (g.D.Desk.state c.serve_line.new.desk))
    c.loop-count.ahead c.in-Err.ended) same c.in-Err.ensures.halted in
    halted c.args.table.now c.args.expert c.args.lines
    (end_state_of g.E.Source.left g.E.Sink.held g.E.Source.faults g.E.Sink.faults c.args.end.now)
    (end_state_of g.E.Source.left g.E.Sink.held g.E.Source.faults g.E.Sink.faults c.loop-count.end)
    (end_state_of g.E.Source.left g.E.Sink.held g.E.Source.faults g.E.Sink.faults c.serve_line.new.end)
    (desk_progress_of (g.D.Desk.state c.args.desk.now))
    (desk_progress_of (g.D.Desk.state c.loop-count.desk))
    (desk_progress_of (g.D.Desk.state c.serve_line.new.desk))
    c.loop-count.ahead c.loop-count._count c.in-Err.ended c.loop-count.invariant.goes c.loop-count-test.true at

pub returns-in-Err-clause-order : goal.returns-in-Err-clause-order
returns-in-Err-clause-order g c =
    line-in_turn g.E.Source.left g.E.Sink.held g.E.Source.reads g.E.Source.faults g.E.Sink.faults c.args.table.now c.args.expert
    c.args.end.now c.loop-count.end c.serve_line.new.end
    (desk_progress_of (g.D.Desk.state c.args.desk.now))
    (desk_progress_of (g.D.Desk.state c.loop-count.desk))
    c.loop-count.ahead c.loop-count._count c.loop-count.invariant.order c.loop-count.invariant.goes c.serve_line.ensures.order

pub returns-clause-served : goal.returns-clause-served
returns-clause-served g c =
    let all : c.loop-count._count ≡ c.args.lines = omega arith in
    limited c.args.table.now c.args.expert c.args.lines
    (end_state_of g.E.Source.left g.E.Sink.held g.E.Source.faults g.E.Sink.faults c.args.end.now)
    (end_state_of g.E.Source.left g.E.Sink.held g.E.Source.faults g.E.Sink.faults c.loop-count.end)
    (desk_progress_of (g.D.Desk.state c.args.desk.now))
    (desk_progress_of (g.D.Desk.state c.loop-count.desk))
    c.loop-count.ahead (subst (λ k. Goes c.args.table.now c.args.expert
    (end_state_of g.E.Source.left g.E.Sink.held g.E.Source.faults g.E.Sink.faults c.args.end.now)
    (end_state_of g.E.Source.left g.E.Sink.held g.E.Source.faults g.E.Sink.faults c.loop-count.end)
    (desk_progress_of (g.D.Desk.state c.args.desk.now))
    (desk_progress_of (g.D.Desk.state c.loop-count.desk))
    c.loop-count.ahead k) all c.loop-count.invariant.goes)

pub returns-then-is_err-clause-desk : goal.returns-then-is_err-clause-desk
returns-then-is_err-clause-desk g c = Works-nil (g.D.Desk.state c.args.desk.now)

pub returns-in-Err-clause-desk : goal.returns-in-Err-clause-desk
returns-in-Err-clause-desk g c = Works-trans c.loop-count.invariant.desk c.serve_line.ensures.desk
