use Rattle.expert_panel.proofs.AttendLemmas.{draw_played, draw_stopped}
use Rattle.expert_panel.proofs.attend.take_turn.Goals as goal

pub returns-in-None-clause-played : goal.returns-in-None-clause-played
returns-in-None-clause-played g c =
    rw c.in-None.is (draw_played g.X.Expert.answers g.X.Expert.learns c.args.gate.now c.args.pass.now c.draw.new.pass
    (g.X.Expert.memory c.args.expert.now) c.draw.result c.draw.ensures)

pub returns-in-None-clause-stopped : goal.returns-in-None-clause-stopped
returns-in-None-clause-stopped g c =
    rw c.in-None.is (draw_stopped g.X.Expert.answers g.X.Expert.learns c.args.gate.now c.args.pass.now c.draw.new.pass
    (g.X.Expert.memory c.args.expert.now) c.draw.result c.draw.ensures)
