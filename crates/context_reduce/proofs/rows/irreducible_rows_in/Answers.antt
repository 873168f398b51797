use Rattle.std.proofs.Common.{◌∙◌, ℕ, Bool, not, sym, ap}
use Rattle.context_reduce.specs.Reduce.{row_at, reducible}
use Rattle.context_reduce.proofs.TableLemmas.{next_kept, next_skipped}
use Rattle.context_reduce.proofs.rows.irreducible_rows_in.Goals as goal
use Rattle.context_reduce.proofs.rows.irreducible_rows_in.Goals.{then-not-is_reducible+in_ok-push, else-not-is_reducible}

pub loop-g-preserved : goal.loop-g-preserved
loop-g-preserved gen c =
    let K = c.args.rows.now in
    let stays : ℕ → Bool = λ g. not (reducible K (row_at K g)) in
    let items = c.as_slice-g-items.result.now in
    let k = c.loop-g.g-index in
    elim c.if-not-is_reducible.branch [
      | then-not-is_reducible+in_ok-push w ↦ w.kept-is
          ∙ next_kept stays items c.args.places.now k c.loop-g.kept w.push.new.self c.as_slice-g-items.ensures c.loop-g-test.true
          c.loop-g.invariant
          (ap not (sym c.is_reducible.ensures ∙ w.if-not-is_reducible.true)) w.in_ok-push.ensures.ok
      | else-not-is_reducible w ↦ w.kept-is ∙ next_skipped stays items c.args.places.now k c.loop-g.kept c.as_slice-g-items.ensures
          c.loop-g-test.true c.loop-g.invariant
          (ap not (sym c.is_reducible.ensures ∙ w.if-not-is_reducible.false))
    ]
