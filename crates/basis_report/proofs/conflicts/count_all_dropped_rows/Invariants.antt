use Rattle.std.proofs.Common.{◌≡◌, ◌+◌, ◌*◌, ◌≤◌, length, map}
use Rattle.fca_model.specs.declared.TheConstants.{MAX_OBJECTS}
use Rattle.basis_report.specs.Conflicts.{dropped_rows_from}
use Rattle.basis_report.proofs.ConflictLemmas.{dropped_later}
use Rattle.basis_report.proofs.conflicts.count_all_dropped_rows.Given as goal

abbrev pub invariant-loop-oracle : goal.invariant-loop-oracle
invariant-loop-oracle l = record {
  counted : l.count + length (dropped_later l.oracle-index l.oracles) ≡ length
      (dropped_rows_from 0 (map (λ o. (o.table, o.conflicts)) l.oracles));
  few : l.count ≤ l.oracle-index * MAX_OBJECTS;
}
