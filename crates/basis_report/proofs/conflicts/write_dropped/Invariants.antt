use Rattle.std.proofs.Common.{◌≡◌, ◌++◌}
use Rattle.std.specs.List.{flat_map}
use Rattle.basis_report.specs.Conflicts.{dropped_rows_of, conflict_line}
use Rattle.basis_report.proofs.ConflictLemmas.{dropped_behind}
use Rattle.basis_report.proofs.conflicts.write_dropped.Given as goal

abbrev pub invariant-loop-place : goal.invariant-loop-place
invariant-loop-place l =
    l.draft ++ flat_map (conflict_line l.table.attributes l.rules) (dropped_behind l.oracle_place l.oracle.table l.place l.oracle.conflicts)
    ≡ l.fn.draft ++ flat_map (conflict_line l.table.attributes l.rules) (dropped_rows_of l.oracle_place l.oracle.table l.oracle.conflicts)
