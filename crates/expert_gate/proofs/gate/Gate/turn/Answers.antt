use Rattle.std.proofs.Common.{subst}
use Rattle.explore_state.specs.History.{Opening}
use Rattle.turn_lock.specs.Passes.{Lock}
use Rattle.expert_gate.specs.Turns.{MakesTurn}
use Rattle.expert_gate.proofs.DeskLemmas.{makes_turn}
use Rattle.expert_gate.proofs.gate.Gate.turn.Goals as goal

pub returns : goal.returns
returns g c =
    subst (λ (l : Lock Opening). MakesTurn l c.args.event c.args.pass.now c.with_turn_by.result c.with_turn_by.new.pass) c.self.view_is
    (makes_turn c.self.inside.lock c.args.event c.args.pass.now c.with_turn_by.new.pass c.with_turn_by.result c.with_turn_by.ensures)
