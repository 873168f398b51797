use Rattle.fca_model.specs.declared.Event.TheVariants.{Row}
use Rattle.expert_gate.proofs.DeskLemmas.{gate_plays}
use Rattle.expert_gate.proofs.seated.SeatedDesk.row.Goals as goal

pub returns-clause-turn : goal.returns-clause-turn
returns-clause-turn g c =
    gate_plays c.args.self.now.gate.now (Row c.args.self.now.pass.now.number c.args.name c.args.row) c.args.self.now.pass.now
    c.row_by.new.pass c.args.self.now.pass.ghost_name c.row_by.result c.row_by.ensures
