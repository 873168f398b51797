use Rattle.std.proofs.Common.{◌≤◌, length, map, sym, ap₂, ◌∙◌, subst, arith}
use Rattle.std.specs.List.{list_all}
use Rattle.std.proofs.lemmas.List.Folds.{list_all-map}
use Rattle.fca_model.specs.Tables.{NamedContext}
use Rattle.expert_wire.specs.Patterns.{is_name}
use Rattle.expert_scripts.proofs.TranscriptLemmas.{are_names}
use Rattle.oracle_expert.specs.Oracles.{Conflicts, Recall}
use Rattle.basis_report.specs.Comments.{AreComments}
use Rattle.basis_report.proofs.CommentLemmas.{conflicts-comments}
use Rattle.basis_report.specs.Conflicts.{dropped_rows_from, conflict_line, conflicts_section, conflicts_text}
use Rattle.basis_report.proofs.ConflictLemmas.{dropped_later, oracle_end, written_end}
use Rattle.basis_report.proofs.conflicts.conflicts_text.Goals as goal

pub returns-clause-text : goal.returns-clause-text
unfolding conflicts_text
returns-clause-text c =
    let attributes = c.table-table.result.now.attributes in
    let rules = c.rules-rules.result.now in
    let oracles = c.args.oracles.now in
    let k = c.loop-oracle_place.oracle_place in
    let ds = dropped_rows_from 0 (map (λ o. (o.table, o.conflicts)) oracles) in
    let over : length oracles ≤ k = omega arith in
    c.into_bytes.ensures
    ∙ written_end (conflict_line attributes rules) c.loop-oracle_place.draft (conflicts_section attributes rules ds) (dropped_later k oracles)
    (oracle_end k oracles over) c.loop-oracle_place.invariant
    ∙ ap₂ (λ t acc. conflicts_section t.attributes acc ds) c.table-table.ensures c.rules-rules.ensures

pub returns-clause-skipped : goal.returns-clause-skipped
unfolding conflicts_text
returns-clause-skipped c =
    let attributes = c.table-table.result.now.attributes in
    let rules = c.rules-rules.result.now in
    let oracles = c.args.oracles.now in
    let k = c.loop-oracle_place.oracle_place in
    let ds = dropped_rows_from 0 (map (λ o. (o.table, o.conflicts)) oracles) in
    let over : length oracles ≤ k = omega arith in
    let text = c.into_bytes.ensures
    ∙ written_end (conflict_line attributes rules) c.loop-oracle_place.draft (conflicts_section attributes rules ds) (dropped_later k oracles)
    (oracle_end k oracles over) c.loop-oracle_place.invariant in
    subst AreComments (sym text) (conflicts-comments attributes rules (map (λ o. (o.table, o.conflicts)) oracles)
    (are_names attributes c.look_at_attributes.ensures)
    (list_all-map (λ (x : NamedContext × Conflicts). list_all is_name x.0.objects) (λ (o : Recall). (o.table, o.conflicts)) oracles
    ∙ c.look_at_oracles.ensures))
