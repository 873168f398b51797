use Rattle.std.proofs.Common.{◌∙◌}
use Rattle.basis_report.proofs.ExplorationLemmas.{three_parts, sections_before_basis-parts}
use Rattle.basis_report.proofs.pieces.lists_piece.Goals as goal

pub returns : goal.returns
returns c =
    c.into_bytes.ensures ∙ three_parts _ _ _ _ _ _ _ c.new-draft.ensures c.in_ok-write_recorded.ensures c.in_ok-write_accepted.ensures
    c.in_ok-write_open.ensures
    ∙ sections_before_basis-parts c.args.explore.now _ c.table-table.ensures _ c.journal.ensures.entries _ c.known.ensures _ c.accepted.ensures.accepted
    _ c.open_questions.ensures
