use Rattle.std.proofs.Common.{◌∙◌, ◌==◌, ℕ, List, get_or, sym}
use Rattle.csv_context.proofs.CellLemmas.{TakesCell-first}
use Rattle.csv_context.proofs.cells.first_cell.Goals as goal
use Rattle.csv_context.proofs.Texts.{both-true}

pub returns-clause-cell : goal.returns-clause-cell
returns-clause-cell c h =
    let cells : List ℕ = c.args.cells.now in
    let size : ℕ = c.from-size.result in
    let short = both-true c.begins_short.result (get_or cells size 0 == 44) h in
    rw c.is_short_cross.ensures (TakesCell-first cells size c.requires c.from-size.ensures (sym c.begins_short.ensures ∙ short.0) short.1)
