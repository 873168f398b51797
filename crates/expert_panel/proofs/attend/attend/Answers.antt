use Rattle.std.proofs.Common.{sym, ◌∙◌}
use Rattle.expert_panel.proofs.AttendLemmas.{begins, goes_on, finishes, ended_spent, is_refused_memory}
use Rattle.expert_panel.proofs.attend.attend.Goals as goal

pub loop-init : goal.loop-init
loop-init g c = (
  tt,
  tt,
  begins g.X.Expert.width g.X.Expert.memory g.X.Expert.answers g.X.Expert.learns c.args.gate.now.base c.args.pass.now
      c.args.expert.now,
)

pub returns-then-is_done : goal.returns-then-is_done
returns-then-is_done g c =
    finishes g.X.Expert.width g.X.Expert.memory g.X.Expert.answers g.X.Expert.learns c.args.gate.now.base c.args.pass.now c.args.expert.now
    c.loop.due c.loop.pass c.take_turn.new.pass c.loop.expert c.take_turn.new.expert c.loop.invariant.2 c.take_turn.ensures.same
    c.take_turn.ensures.width
    c.in-Ok.reply c.in-Ok.ensures.played (sym c.is_done.ensures ∙ c.if-is_done.true)

pub loop-preserved : goal.loop-preserved
loop-preserved g c =
    let on = goes_on g.X.Expert.width g.X.Expert.memory g.X.Expert.answers g.X.Expert.learns c.args.gate.now.base c.args.pass.now
    c.args.expert.now
    c.loop.due c.loop.pass c.take_turn.new.pass c.loop.expert c.take_turn.new.expert c.loop.invariant.2 c.take_turn.ensures.same
    c.take_turn.ensures.width
    c.in-Ok.reply c.in-Ok.ensures.played c.in-Ok.ensures.wide (sym c.is_done.ensures ∙ c.if-is_done.false) in
    (tt, tt, rw c.question_after-due.ensures on)

pub returns-in-Err-Spent : goal.returns-in-Err-Spent
returns-in-Err-Spent g c =
    ended_spent g.X.Expert.width g.X.Expert.memory g.X.Expert.answers g.X.Expert.learns c.args.gate.now.base c.args.pass.now c.args.expert.now
    c.loop.due c.loop.pass c.take_turn.new.pass c.loop.expert c.take_turn.new.expert c.loop.invariant.2 c.take_turn.ensures.same
    c.take_turn.ensures.width
    (rw c.in-Err-Spent.field-0-is at c.in-Err-Spent.ensures).stopped

pub returns-in-Err-Memory : goal.returns-in-Err-Memory
returns-in-Err-Memory g c =
    is_refused_memory g.X.Expert.width g.X.Expert.memory g.X.Expert.answers g.X.Expert.learns c.args.gate.now.base c.args.pass.now
    c.args.expert.now
    c.loop.due c.loop.pass c.take_turn.new.pass c.loop.expert c.take_turn.new.expert c.loop.invariant.2 c.take_turn.ensures.same
    c.take_turn.ensures.width
    (rw c.in-Err-Memory.field-0-is at c.in-Err-Memory.ensures).stopped
