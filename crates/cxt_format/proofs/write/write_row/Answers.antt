use Rattle.std.proofs.Common.{◌≡◌, ◌∙◌, ◌+◌, ◌-◌, ◌*◌, ◌<◌, ◌++◌, ℕ, List, length, take, drop, min, sym, ap, ap₂, append_assoc, arith}
use Rattle.std.proofs.lemmas.List.{map-append}
use Rattle.std.proofs.Math.Seq.{take-add}
use Rattle.fca_model.specs.Sets.{Set}
use Rattle.text_pieces.specs.Marks.{mark_of, marks_of}
use Rattle.cxt_format.proofs.write.write_row.Goals as goal

pub loop-block-preserved : goal.loop-block-preserved
loop-block-preserved c =
    let row : Set = c.args.row.now in
    let old : List ℕ = c.args.text.now.items in
    let from : ℕ = 64 * c.loop-block.block in
    let count : ℕ = c.min-end.result - from in
    let inside : from < length row = omega (arith, c.loop-block-test.true, c.width.ensures.width) in
    let start : min (length row) from ≡ from = omega arith in
    let next : from + count ≡ min (length row) (64 * (c.loop-block.block + 1)) =
    omega (arith, c.min-end.ensures, c.width-in-loop-block.ensures.width) in
    c.in_ok-extend_from_slice.ensures.items
    ∙ ap₂ (λ (xs ys : List ℕ). xs ++ ys) (c.loop-block.invariant ∙ ap (λ k. old ++ marks_of (take k row)) start) c.marks_of-marks.ensures
    ∙ append_assoc old (marks_of (take from row)) (marks_of (take count (drop from row)))
    ∙ ap (λ xs. old ++ xs) (sym (map-append mark_of (take from row) (take count (drop from row)))
    ∙ ap marks_of (sym (take-add from count row)) ∙ ap (λ k. marks_of (take k row)) next)
