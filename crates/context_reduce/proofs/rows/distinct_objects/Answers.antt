use Rattle.std.proofs.Common.{◌≡◌, ◌∙◌, ◌<◌, [], not, length, filter, take, sym, ap, arith}
use Rattle.std.proofs.lemmas.Option.{get_or_from_slice_get}
use Rattle.std.specs.List.{range_with_len, list_any}
use Rattle.fca_model.specs.Sets.{Set, same}
use Rattle.context_reduce.specs.Reduce.{row_at, is_first, distinct_objects}
use Rattle.context_reduce.proofs.RangeLemmas.{kept_more, kept_skips}
use Rattle.context_reduce.proofs.SeenLemmas.{seen_more}
use Rattle.context_reduce.proofs.rows.distinct_objects.Goals as goal
use Rattle.context_reduce.proofs.rows.distinct_objects.Goals.{then-branch+in_ok-push, else-branch}

pub loop-g-preserved : goal.loop-g-preserved
loop-g-preserved c =
    let K = c.args.rows.now in
    let g = c.loop-g.g in
    let row : c.get-row.result ≡ row_at K g = sym (get_or_from_slice_get K.rows g c.get-row.result [] c.get-row.ensures.row) in
    let inside : g < length K.rows = omega (arith, c.loop-g-test.true, c.len-g-end.ensures) in
    let first : c.in_ok-insert.field-0 ≡ is_first K g =
    c.in_ok-insert.ensures.added ∙ ap not (c.loop-g.invariant.seen c.get-row.result)
    ∙ ap (λ (X : Set). not (list_any (same X) (take g K.rows))) row in
    record {
      places = elim c.if-branch.branch [
        | then-branch+in_ok-push w ↦ w.places-is ∙ kept_more (is_first K) g c.loop-g.places w.push.new.self c.loop-g.invariant.places
            (sym first ∙ w.if-branch.true) w.in_ok-push.ensures.ok
        | else-branch w ↦ w.places-is ∙ kept_skips (is_first K) g c.loop-g.places c.loop-g.invariant.places (sym first ∙ w.if-branch.false)
      ];
      seen = λ A. seen_more K.rows g c.get-row.result A c.loop-g.seen c.insert.new.self inside row c.in_ok-insert.ensures.updates
          (c.loop-g.invariant.seen A);
    }

pub returns : goal.returns
unfolding distinct_objects
returns c =
    let K = c.args.rows.now in
    let e : c.loop-g.g ≡ length K.rows = omega (arith, c.len-g-end.ensures, c.loop-g-test.false, c.loop-g.auto.g-end) in
    c.loop-g.invariant.places ∙ ap (λ n. filter (is_first K) (range_with_len 0 n)) e
