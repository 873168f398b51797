use Rattle.std.proofs.Common.{◌≡◌, ℕ, ◌+◌, ◌≤◌, length}
use Rattle.basis_report.specs.Conflicts.{dropped_rows_of}
use Rattle.basis_report.proofs.ConflictLemmas.{dropped_behind}
use Rattle.basis_report.proofs.conflicts.count_dropped_rows.Given as goal

abbrev pub invariant-loop-place : goal.invariant-loop-place
invariant-loop-place l = record {
  counted : (e : ℕ) → l.count + length (dropped_behind e l.oracle.table l.place l.oracle.conflicts) ≡ length
      (dropped_rows_of e l.oracle.table l.oracle.conflicts);
  few : l.count ≤ l.place;
}
