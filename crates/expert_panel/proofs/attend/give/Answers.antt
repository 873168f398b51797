use Rattle.fca_model.specs.declared.Event.TheVariants.{Confirm, Row}
use Rattle.expert_panel.proofs.AttendLemmas.{turn_refused}
use Rattle.expert_panel.proofs.attend.give.Goals as goal

pub returns-in-Confirm-clause-refused : goal.returns-in-Confirm-clause-refused
returns-in-Confirm-clause-refused g c =
    turn_refused c.args.gate.now (Confirm c.args.pass.now.number) c.args.pass.now c.confirm_by.new.pass c.confirm_by.result
    c.confirm_by.ensures

pub returns-in-Row-clause-refused : goal.returns-in-Row-clause-refused
returns-in-Row-clause-refused g c =
    turn_refused c.args.gate.now (Row c.args.pass.now.number c.in-Row.name c.in-Row.row) c.args.pass.now c.row_by.new.pass c.row_by.result
    c.row_by.ensures
