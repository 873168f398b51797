use Rattle.std.proofs.Common.{◌≡◌, ◌+◌, sym, ◌∙◌, Err, arith}
use Rattle.turn_lock.specs.declared.fault.TurnFault.TheVariants.{Spent as NoTurn}
use Rattle.fca_model.specs.declared.Event.TheVariants.{Leave}
use Rattle.expert_gate.proofs.DeskLemmas.{plays-works, Works-nil, Works-trans}
use Rattle.expert_sessions.specs.Moves.{end_state_of, desk_progress_of}
use Rattle.expert_sessions.proofs.MoveLemmas.{one_less-taken, one_less-none, leave-few}
use Rattle.expert_sessions.proofs.TalkLemmas.{refused, spent_early, left, spent_late, unremembered, served-few}
use Rattle.expert_sessions.proofs.OrderLemmas.{nothing-in_turn}
use Rattle.expert_sessions.proofs.talk.session.Goals as goal

pub returns-in_default-clause-talk : goal.returns-in_default-clause-talk
returns-in_default-clause-talk g c = refused c.args.table.now c.args.expert c.args.lines
    (end_state_of g.E.Source.left g.E.Sink.held g.E.Source.faults g.E.Sink.faults c.args.end.now)
    (desk_progress_of (g.D.Desk.state c.args.desk.now))

pub returns-in_default-clause-order : goal.returns-in_default-clause-order
returns-in_default-clause-order g c = nothing-in_turn g.E.Source.left g.E.Sink.held g.E.Source.reads g.E.Source.faults g.E.Sink.faults
    c.args.table.now c.args.expert c.args.end.now

pub returns-in-Spent-clause-talk : goal.returns-in-Spent-clause-talk
returns-in-Spent-clause-talk g c = spent_early c.args.table.now c.args.expert c.args.lines
    (end_state_of g.E.Source.left g.E.Sink.held g.E.Source.faults g.E.Sink.faults c.args.end.now)
    (end_state_of g.E.Source.left g.E.Sink.held g.E.Source.faults g.E.Sink.faults c.serve_lines.new.end)
    (desk_progress_of (g.D.Desk.state c.args.desk.now))
    (desk_progress_of (g.D.Desk.state c.serve_lines.new.desk))
    c.serve_lines.result c.serve_lines.ensures.served c.in-Spent.is

pub returns-in-Spent-clause-turns : goal.returns-in-Spent-clause-turns
returns-in-Spent-clause-turns g c = served-few (c.args.lines + 1) (omega arith) c.serve_lines.ensures.served

pub returns-in-Ok-leave-clause-talk : goal.returns-in-Ok-leave-clause-talk
returns-in-Ok-leave-clause-talk g c =
    let same : (g.D.Desk.state c.serve_lines.new.desk).number ≡ c.args.expert = c.serve_lines.ensures.desk.same.number
    ∙ sym c.requires.expert in
    left c.args.table.now c.args.expert c.args.lines
    (end_state_of g.E.Source.left g.E.Sink.held g.E.Source.faults g.E.Sink.faults c.args.end.now)
    (end_state_of g.E.Source.left g.E.Sink.held g.E.Source.faults g.E.Sink.faults c.serve_lines.new.end)
    (desk_progress_of (g.D.Desk.state c.args.desk.now))
    (desk_progress_of (g.D.Desk.state c.serve_lines.new.desk))
    (desk_progress_of (g.D.Desk.state c.leave.new.self))
    c.serve_lines.result c.in-Ok-leave.field-0 (g.D.Desk.state c.serve_lines.new.desk).number same
    c.serve_lines.ensures.served c.in_default-serve_lines.not-Spent c.in-Ok-leave.ensures.turn.entry
    (one_less-taken (g.D.Desk.state c.serve_lines.new.desk).left (g.D.Desk.state c.leave.new.self).left c.leave.ensures.turn.left
    (λ none. let told = c.leave.ensures.turn.spent.1 none in cc))

pub returns-in-Ok-leave-clause-turns : goal.returns-in-Ok-leave-clause-turns
returns-in-Ok-leave-clause-turns g c =
    leave-few (g.D.Desk.state c.args.desk.now).left (g.D.Desk.state c.serve_lines.new.desk).left
    (g.D.Desk.state c.leave.new.self).left c.args.lines
    (served-few c.args.lines (omega arith) c.serve_lines.ensures.served) c.leave.ensures.turn.left

pub returns-in-Err-Spent-clause-talk : goal.returns-in-Err-Spent-clause-talk
returns-in-Err-Spent-clause-talk g c =
    let refused : c.leave.result ≡ Err NoTurn = cc in
    let none = one_less-none (g.D.Desk.state c.serve_lines.new.desk).left (g.D.Desk.state c.leave.new.self).left c.leave.ensures.turn.left
    (c.leave.ensures.turn.spent.0 refused) in
    spent_late c.args.table.now c.args.expert c.args.lines
    (end_state_of g.E.Source.left g.E.Sink.held g.E.Source.faults g.E.Sink.faults c.args.end.now)
    (end_state_of g.E.Source.left g.E.Sink.held g.E.Source.faults g.E.Sink.faults c.serve_lines.new.end)
    (desk_progress_of (g.D.Desk.state c.args.desk.now))
    (desk_progress_of (g.D.Desk.state c.serve_lines.new.desk))
    (desk_progress_of (g.D.Desk.state c.leave.new.self))
    c.serve_lines.result c.serve_lines.ensures.served c.in_default-serve_lines.not-Spent c.in-Err-Spent.ensures.turn.err none

pub returns-in-Err-Spent-clause-turns : goal.returns-in-Err-Spent-clause-turns
returns-in-Err-Spent-clause-turns g c =
    leave-few (g.D.Desk.state c.args.desk.now).left (g.D.Desk.state c.serve_lines.new.desk).left
    (g.D.Desk.state c.leave.new.self).left c.args.lines
    (served-few c.args.lines (omega arith) c.serve_lines.ensures.served) c.leave.ensures.turn.left

pub returns-clause-talk : goal.returns-clause-talk
returns-clause-talk g c =
    unremembered c.args.table.now c.args.expert c.args.lines
    (end_state_of g.E.Source.left g.E.Sink.held g.E.Source.faults g.E.Sink.faults c.args.end.now)
    (end_state_of g.E.Source.left g.E.Sink.held g.E.Source.faults g.E.Sink.faults c.serve_lines.new.end)
    (desk_progress_of (g.D.Desk.state c.args.desk.now))
    (desk_progress_of (g.D.Desk.state c.serve_lines.new.desk))
    (desk_progress_of (g.D.Desk.state c.leave.new.self))
    c.serve_lines.result c.serve_lines.ensures.served c.in_default-serve_lines.not-Spent c.in-Err-Memory.ensures.turn.err
    (one_less-taken (g.D.Desk.state c.serve_lines.new.desk).left (g.D.Desk.state c.leave.new.self).left c.leave.ensures.turn.left
    (λ none. let told = c.leave.ensures.turn.spent.1 none in cc))

pub returns-clause-turns : goal.returns-clause-turns
returns-clause-turns g c =
    leave-few (g.D.Desk.state c.args.desk.now).left (g.D.Desk.state c.serve_lines.new.desk).left
    (g.D.Desk.state c.leave.new.self).left c.args.lines
    (served-few c.args.lines (omega arith) c.serve_lines.ensures.served) c.leave.ensures.turn.left

pub returns-in_default-clause-desk : goal.returns-in_default-clause-desk
returns-in_default-clause-desk g c = Works-nil (g.D.Desk.state c.args.desk.now)

pub returns-in-Ok-leave-clause-desk : goal.returns-in-Ok-leave-clause-desk
returns-in-Ok-leave-clause-desk g c =
    Works-trans c.serve_lines.ensures.desk (plays-works (g.D.Wide.attribute_count c.serve_lines.new.desk)
    (Leave (g.D.Desk.state c.serve_lines.new.desk).number) (g.D.Desk.state c.serve_lines.new.desk) (g.D.Desk.state c.leave.new.self)
    c.leave.result c.leave.ensures.turn)

pub returns-in-Err-Spent-clause-desk : goal.returns-in-Err-Spent-clause-desk
returns-in-Err-Spent-clause-desk g c =
    Works-trans c.serve_lines.ensures.desk (plays-works (g.D.Wide.attribute_count c.serve_lines.new.desk)
    (Leave (g.D.Desk.state c.serve_lines.new.desk).number) (g.D.Desk.state c.serve_lines.new.desk) (g.D.Desk.state c.leave.new.self)
    c.leave.result c.leave.ensures.turn)

pub returns-clause-desk : goal.returns-clause-desk
returns-clause-desk g c =
    Works-trans c.serve_lines.ensures.desk (plays-works (g.D.Wide.attribute_count c.serve_lines.new.desk)
    (Leave (g.D.Desk.state c.serve_lines.new.desk).number) (g.D.Desk.state c.serve_lines.new.desk) (g.D.Desk.state c.leave.new.self)
    c.leave.result c.leave.ensures.turn)
