use Rattle.std.proofs.Common.{◌≡◌, ◌++◌, map}
use Rattle.std.specs.List.{flat_map}
use Rattle.basis_report.specs.Conflicts.{dropped_rows_from, conflict_line, conflicts_section}
use Rattle.basis_report.proofs.ConflictLemmas.{dropped_later}
use Rattle.basis_report.proofs.conflicts.conflicts_text.Given as goal

abbrev pub invariant-loop-oracle_place : goal.invariant-loop-oracle_place
invariant-loop-oracle_place l =
    l.draft ++ flat_map (conflict_line l.table.attributes l.rules) (dropped_later l.oracle_place l.oracles)
    ≡ conflicts_section l.table.attributes l.rules (dropped_rows_from 0 (map (λ o. (o.table, o.conflicts)) l.oracles))
