use Rattle.std.proofs.Common.{◌∙◌, ◌-◌, ℕ, length}
use Rattle.cxt_format.proofs.CellLemmas.{crosses_if_marks-ends, crosses_if_marks-None}
use Rattle.cxt_format.proofs.cells.crosses_by_ends.Goals as goal

pub returns : goal.returns
returns g c =
    crosses_if_marks-ends c.args.cells.now g.row.N c.in_ok-first.first c.in_ok-last.last c.requires.few c.requires.within c.requires.reached
    c.in_ok-first.ensures c.in_ok-last.ensures

pub returns-in_err-first : goal.returns-in_err-first
returns-in_err-first g c = c.from_residual.ensures ∙ crosses_if_marks-None c.args.cells.now 0 g.row.N c.in_err-first.ensures

pub returns-in_err-last : goal.returns-in_err-last
returns-in_err-last g c =
    let behind : ℕ = length c.args.cells.now - g.row.N in
    c.from_residual-in_err-last.ensures ∙ crosses_if_marks-None c.args.cells.now behind g.row.N c.in_err-last.ensures
