use Rattle.std.proofs.Common.{◌++◌}
use Rattle.fca_model.specs.Tables.{Text}
use Rattle.fca_model.specs.Exploration.{SetEntry}
use Rattle.basis_report.specs.Explorations.{recorded_line, recorded_section}
use Rattle.basis_report.proofs.ExplorationLemmas.{lines_more}
use Rattle.basis_report.proofs.explorations.write_recorded.Goals as goal

pub loop-entry-preserved : goal.loop-entry-preserved
loop-entry-preserved c =
    let line : SetEntry → Text = λ entry. recorded_line entry.event entry.reply in
    lines_more line c.args.journal.now c.loop-entry.entry-index c.entry-item.result c.loop-entry.draft c.write_row.new.draft
    (c.args.draft.now ++ recorded_section c.args.journal.now)
    c.loop-entry-test.true c.entry-item.is c.in_ok-write_row.ensures c.loop-entry.invariant
