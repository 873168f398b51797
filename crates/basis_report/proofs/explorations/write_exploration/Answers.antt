use Rattle.std.proofs.Common.{◌∙◌, ◌++◌, ap}
use Rattle.std.proofs.lemmas.Result.{on_ok_weaker}
use Rattle.basis_report.proofs.ExplorationLemmas.{five_parts, explore_text-parts}
use Rattle.basis_report.proofs.explorations.write_exploration.Goals as goal

pub returns : goal.returns
returns c =
    let o = c.args.explore.now.opening in
    on_ok_weaker c.write_basis.result (λ e. five_parts _ _ _ _ _ _ _ _ _ _ _ c.in_ok-write_transcript.ensures.whole
    c.in_ok-write_recorded.ensures c.in_ok-write_accepted.ensures c.in_ok-write_open.ensures e
    ∙ ap (λ z. c.args.draft.now ++ z) (explore_text-parts o.table o.settings c.args.explore.now.journal _ c.table-table.ensures _
    c.settings.ensures.settings _ c.known.ensures _ c.journal.ensures.entries _ c.journal-2.ensures.entries
    _ c.accepted.ensures.accepted _ c.open_questions.ensures _ c.accepted-2.ensures.accepted _ c.open_questions-2.ensures))
    c.write_basis.ensures
