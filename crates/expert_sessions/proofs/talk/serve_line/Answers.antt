use Rattle.std.proofs.Common.{◌≡◌, true, false}
use Rattle.std.specs.Prelude.{is_err}
use Rattle.std.proofs.lemmas.Result.{err_from_is_err_and}
use Rattle.expert_gate.proofs.DeskLemmas.{Works-nil}
use Rattle.expert_sessions.specs.Moves.{end_state_of, desk_progress_of}
use Rattle.expert_sessions.proofs.LineLemmas.{sent_whole, sent_quiet}
use Rattle.expert_sessions.proofs.CourseLemmas.{unread, unturned, line-served, line-quits, line-unanswered}
use Rattle.expert_sessions.proofs.OrderLemmas.{answered}
use Rattle.expert_sessions.proofs.talk.serve_line.Goals as goal

pub returns-in_err-at-clause-halted : goal.returns-in_err-at-clause-halted
returns-in_err-at-clause-halted g c =
    let p = err_from_is_err_and c.from_residual.result c.from_residual.ensures.1 in
    rw (p.1, p.2) (unread c.args.table.now (g.D.Desk.state c.args.desk.now).number
    (end_state_of g.E.Source.left g.E.Sink.held g.E.Source.faults g.E.Sink.faults c.args.end.now)
    (end_state_of g.E.Source.left g.E.Sink.held g.E.Source.faults g.E.Sink.faults c.read_line.new.end)
    (desk_progress_of (g.D.Desk.state c.args.desk.now))
    c.args.ahead.now c.read_line.new.self _ c.read_line.ensures.read c.in_err-at.ensures.none)

pub returns-in_err-said-clause-halted : goal.returns-in_err-said-clause-halted
returns-in_err-said-clause-halted g c =
    let p = err_from_is_err_and c.from_residual-in_err-said.result c.from_residual-in_err-said.ensures.1 in
    let spent = rw c.line.ensures at c.in_err-said.ensures.spent in
    rw (p.1, p.2) (unturned c.args.table.now (g.D.Desk.state c.args.desk.now).number
    (end_state_of g.E.Source.left g.E.Sink.held g.E.Source.faults g.E.Sink.faults c.args.end.now)
    (end_state_of g.E.Source.left g.E.Sink.held g.E.Source.faults g.E.Sink.faults c.read_line.new.end)
    (desk_progress_of (g.D.Desk.state c.args.desk.now))
    (desk_progress_of (g.D.Desk.state c.answer.new.desk))
    c.args.ahead.now c.read_line.new.self c.in_ok-at.at _ spent.3 c.read_line.ensures.read c.in_ok-at.ensures.quiet c.in_ok-at.ensures.line
    c.in_ok-at.ensures.short spent.4 spent.0 spent.1 spent.2)

pub returns-then-is_err-clause-halted : goal.returns-then-is_err-clause-halted
returns-then-is_err-clause-halted g c =
    let answered = rw c.line.ensures at c.in_ok-said.ensures.answered in
    let failed : is_err c.write_said.result ≡ true = cc (c.is_err.ensures.value, c.if-is_err.true) in
    line-unanswered c.args.table.now (g.D.Desk.state c.args.desk.now).number
    (end_state_of g.E.Source.left g.E.Sink.held g.E.Source.faults g.E.Sink.faults c.args.end.now)
    (end_state_of g.E.Source.left g.E.Sink.held g.E.Source.faults g.E.Sink.faults c.read_line.new.end)
    (end_state_of g.E.Source.left g.E.Sink.held g.E.Source.faults g.E.Sink.faults c.write_said.new.end)
    (desk_progress_of (g.D.Desk.state c.args.desk.now))
    (desk_progress_of (g.D.Desk.state c.answer.new.desk))
    c.args.ahead.now c.read_line.new.self c.forget.new.self c.in_ok-at.at c.in_ok-said.said answered.0 answered.1
    c.read_line.ensures.read c.in_ok-at.ensures.quiet c.in_ok-at.ensures.line c.in_ok-at.ensures.short answered.2 answered.3
    c.forget.ensures
    c.write_said.result c.write_said.ensures.written failed

pub returns-in-Bye-clause-halted : goal.returns-in-Bye-clause-halted
returns-in-Bye-clause-halted g c =
    let answered = rw c.line.ensures at c.in_ok-said.ensures.answered in
    let ok : is_err c.write_said.result ≡ false = cc (c.is_err.ensures.value, c.if-is_err.false) in
    line-quits c.args.table.now (g.D.Desk.state c.args.desk.now).number
    (end_state_of g.E.Source.left g.E.Sink.held g.E.Source.faults g.E.Sink.faults c.args.end.now)
    (end_state_of g.E.Source.left g.E.Sink.held g.E.Source.faults g.E.Sink.faults c.read_line.new.end)
    (end_state_of g.E.Source.left g.E.Sink.held g.E.Source.faults g.E.Sink.faults c.write_said.new.end)
    (desk_progress_of (g.D.Desk.state c.args.desk.now))
    (desk_progress_of (g.D.Desk.state c.answer.new.desk))
    c.args.ahead.now c.read_line.new.self c.forget.new.self c.in_ok-at.at c.in_ok-said.said answered.0 answered.1
    c.read_line.ensures.read c.in_ok-at.ensures.quiet c.in_ok-at.ensures.line c.in_ok-at.ensures.short answered.2 answered.3
    c.forget.ensures
    (sent_whole c.write_said.result c.write_said.ensures.written ok)
    (sent_quiet c.write_said.result c.write_said.ensures.written ok) c.in-Bye.is

pub returns-in_default-clause-served : goal.returns-in_default-clause-served
returns-in_default-clause-served g c =
    let answered = rw c.line.ensures at c.in_ok-said.ensures.answered in
    let ok : is_err c.write_said.result ≡ false = cc (c.is_err.ensures.value, c.if-is_err.false) in
    line-served c.args.table.now (g.D.Desk.state c.args.desk.now).number
    (end_state_of g.E.Source.left g.E.Sink.held g.E.Source.faults g.E.Sink.faults c.args.end.now)
    (end_state_of g.E.Source.left g.E.Sink.held g.E.Source.faults g.E.Sink.faults c.read_line.new.end)
    (end_state_of g.E.Source.left g.E.Sink.held g.E.Source.faults g.E.Sink.faults c.write_said.new.end)
    (desk_progress_of (g.D.Desk.state c.args.desk.now))
    (desk_progress_of (g.D.Desk.state c.answer.new.desk))
    c.args.ahead.now c.read_line.new.self c.forget.new.self c.in_ok-at.at c.in_ok-said.said answered.0 answered.1
    c.read_line.ensures.read c.in_ok-at.ensures.quiet c.in_ok-at.ensures.line c.in_ok-at.ensures.short answered.2 answered.3
    c.forget.ensures
    (sent_whole c.write_said.result c.write_said.ensures.written ok)
    (sent_quiet c.write_said.result c.write_said.ensures.written ok) c.in_default.not-Bye

pub returns-then-is_err-clause-order : goal.returns-then-is_err-clause-order
returns-then-is_err-clause-order g c = answered g.E.Source.left g.E.Sink.held g.E.Source.reads g.E.Source.faults g.E.Sink.faults
    c.args.ahead.now
    c.args.end.now c.read_line.new.end c.write_said.new.end c.read_line.ensures.order _ c.write_said.result c.write_said.ensures.written
    c.write_said.ensures.unread

pub returns-in-Bye-clause-order : goal.returns-in-Bye-clause-order
returns-in-Bye-clause-order g c = answered g.E.Source.left g.E.Sink.held g.E.Source.reads g.E.Source.faults g.E.Sink.faults c.args.ahead.now
    c.args.end.now c.read_line.new.end c.write_said.new.end c.read_line.ensures.order _ c.write_said.result c.write_said.ensures.written
    c.write_said.ensures.unread

pub returns-in_default-clause-order : goal.returns-in_default-clause-order
returns-in_default-clause-order g c = answered g.E.Source.left g.E.Sink.held g.E.Source.reads g.E.Source.faults g.E.Sink.faults
    c.args.ahead.now
    c.args.end.now c.read_line.new.end c.write_said.new.end c.read_line.ensures.order _ c.write_said.result c.write_said.ensures.written
    c.write_said.ensures.unread

pub returns-in_err-at-clause-desk : goal.returns-in_err-at-clause-desk
returns-in_err-at-clause-desk g c = Works-nil (g.D.Desk.state c.args.desk.now)
