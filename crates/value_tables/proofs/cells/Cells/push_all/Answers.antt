use Rattle.std.proofs.Common.{◌∙◌, ap₂}
use Rattle.value_tables.specs.Cells.{cut}
use Rattle.value_tables.proofs.CellLemmas.{cut_append}
use Rattle.value_tables.proofs.cells.Cells.push_all.Goals as goal

pub returns-clause-texts : goal.returns-clause-texts
returns-clause-texts c =
    let old = c.args.self.now in
    ap₂ cut c.in_ok-extend_from_slice-2.ensures.items c.in_ok-extend_from_slice.ensures.items
    ∙ cut_append old.lengths.items c.args.lengths.now old.text.items c.args.text.now c.requires.cells.whole
