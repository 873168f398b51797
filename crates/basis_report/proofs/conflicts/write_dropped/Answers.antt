use Rattle.std.proofs.Common.{◌+◌, ◌++◌, Some, None, [], sym, ap, ◌∙◌, append-nil}
use Rattle.std.specs.List.{flat_map}
use Rattle.basis_report.specs.Conflicts.{dropped_rows_at, dropped_rows_of, conflict_line}
use Rattle.basis_report.proofs.ConflictLemmas.{dropped_behind, place_step, written_step}
use Rattle.basis_report.proofs.conflicts.write_dropped.Goals as goal
use Rattle.basis_report.proofs.conflicts.write_dropped.Goals.{in-Some+in_ok-write_conflict, in_default}

pub loop-place-preserved : goal.loop-place-preserved
loop-place-preserved c =
    let e = c.args.oracle_place in
    let D = c.args.oracle.now.table in
    let conflicts = c.args.oracle.now.conflicts in
    let place = c.loop-place.place in
    let line = conflict_line c.args.table.now.attributes c.args.rules.now in
    let all = c.args.draft.now ++ flat_map line (dropped_rows_of e D conflicts) in
    elim c.match-conflict.branch [
      | in-Some+in_ok-write_conflict w ↦
          written_step line c.loop-place.draft c.match-conflict.draft all (dropped_behind e D place conflicts)
          (dropped_rows_at e D place (Some w.in-Some.broken)) (dropped_behind e D (place + 1) conflicts)
          (place_step e D place conflicts (Some w.in-Some.broken) (c.conflict.ensures ∙ ap (λ o. Some o) w.in-Some.is))
          (w.draft-is ∙ w.in_ok-write_conflict.ensures
          ∙ ap (λ own. c.loop-place.draft ++ flat_map line (dropped_rows_at e own place (Some w.in-Some.broken)))
          c.table-own_table.ensures.table)
          c.loop-place.invariant
      | in_default w ↦
          written_step line c.loop-place.draft c.match-conflict.draft all (dropped_behind e D place conflicts) []
          (dropped_behind e D (place + 1) conflicts)
          (place_step e D place conflicts None (c.conflict.ensures ∙ ap (λ o. Some o) w.in_default.is))
          (w.draft-is ∙ sym (append-nil c.loop-place.draft))
          c.loop-place.invariant
    ]
