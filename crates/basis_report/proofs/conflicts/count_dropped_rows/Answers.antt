use Rattle.std.proofs.Common.{◌+◌, length, sym, ap, ◌∙◌, arith}
use Rattle.basis_report.specs.Conflicts.{dropped_rows_at, dropped_rows_of}
use Rattle.basis_report.proofs.ConflictLemmas.{dropped_behind, place_step, counted_step, length-dropped, length-kept}
use Rattle.basis_report.proofs.conflicts.count_dropped_rows.Goals as goal
use Rattle.basis_report.proofs.conflicts.count_dropped_rows.Goals.{then-is_some, else-is_some}

pub loop-place-preserved : goal.loop-place-preserved
loop-place-preserved c =
    let D = c.args.oracle.now.table in
    let conflicts = c.args.oracle.now.conflicts in
    let place = c.loop-place.place in
    let o = c.conflict.result in
    elim c.if-is_some.branch [
      | then-is_some w ↦ record {
        counted = λ e. counted_step c.loop-place.count c.if-is_some.count (length (dropped_rows_of e D conflicts))
            (dropped_behind e D place conflicts) (dropped_rows_at e D place o) (dropped_behind e D (place + 1) conflicts)
            (place_step e D place conflicts o c.conflict.ensures)
            (w.count-is ∙ ap (λ n. c.loop-place.count + n) (sym (length-dropped e D place o (sym c.is_some.ensures ∙ w.if-is_some.true))))
            (c.loop-place.invariant.counted e);
        few = omega arith;
      }
      | else-is_some w ↦ record {
        counted = λ e. counted_step c.loop-place.count c.if-is_some.count (length (dropped_rows_of e D conflicts))
            (dropped_behind e D place conflicts) (dropped_rows_at e D place o) (dropped_behind e D (place + 1) conflicts)
            (place_step e D place conflicts o c.conflict.ensures)
            (omega (arith, w.count-is, length-kept e D place o (sym c.is_some.ensures ∙ w.if-is_some.false)))
            (c.loop-place.invariant.counted e);
        few = omega arith;
      }
    ]
