use Rattle.fca_model.specs.declared.Event.TheVariants.{Leave}
use Rattle.expert_gate.proofs.DeskLemmas.{gate_plays}
use Rattle.expert_gate.proofs.seated.SeatedDesk.leave.Goals as goal

pub returns-clause-turn : goal.returns-clause-turn
returns-clause-turn g c =
    gate_plays c.args.self.now.gate.now (Leave c.args.self.now.pass.now.number) c.args.self.now.pass.now c.leave.new.pass
    c.args.self.now.pass.ghost_name c.leave.result c.leave.ensures
