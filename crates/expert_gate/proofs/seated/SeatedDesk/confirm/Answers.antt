use Rattle.fca_model.specs.declared.Event.TheVariants.{Confirm}
use Rattle.expert_gate.proofs.DeskLemmas.{gate_plays}
use Rattle.expert_gate.proofs.seated.SeatedDesk.confirm.Goals as goal

pub returns-clause-turn : goal.returns-clause-turn
returns-clause-turn g c =
    gate_plays c.args.self.now.gate.now (Confirm c.args.self.now.pass.now.number) c.args.self.now.pass.now c.confirm_by.new.pass
    c.args.self.now.pass.ghost_name c.confirm_by.result c.confirm_by.ensures
