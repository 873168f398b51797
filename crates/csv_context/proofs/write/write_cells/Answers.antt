use Rattle.std.proofs.Common.{◌≡◌, ◌∙◌, ◌+◌, ◌-◌, ◌*◌, ◌<◌, ◌++◌, ℕ, List, length, take, drop, min, sym, ap, ap₂, append_assoc, arith}
use Rattle.std.proofs.lemmas.List.{append-nil}
use Rattle.std.proofs.Math.Seq.{take-add}
use Rattle.fca_model.specs.Sets.{Set}
use Rattle.csv_context.specs.Written.{cells_text}
use Rattle.csv_context.proofs.WriteLemmas.{cells_text-append, cells_text-none}
use Rattle.csv_context.proofs.write.write_cells.Goals as goal

pub loop-block-init : goal.loop-block-init
loop-block-init c =
    let row : Set = c.args.row.now in
    let old : List ℕ = c.args.text.now.items in
    let none : min (length row) 0 ≡ 0 = omega arith in
    sym (append-nil old) ∙ ap (λ (xs : List ℕ). old ++ xs) (sym cells_text-none ∙ ap (λ (n : ℕ). cells_text (take n row)) (sym none))

pub loop-block-preserved : goal.loop-block-preserved
loop-block-preserved c =
    let row : Set = c.args.row.now in
    let old : List ℕ = c.args.text.now.items in
    let from : ℕ = 64 * c.loop-block.block in
    let count : ℕ = c.min-end.result - from in
    let inside : from < length row = omega (arith, c.loop-block-test.true, c.width.ensures.width) in
    let start : min (length row) from ≡ from = omega arith in
    let next : from + count ≡ min (length row) (64 * (c.loop-block.block + 1)) =
    omega (arith, c.min-end.ensures, c.width-in-loop-block.ensures.width) in
    c.in_ok-extend_from_slice.ensures.items
    ∙ ap₂ (λ (xs ys : List ℕ). xs ++ ys) (c.loop-block.invariant
    ∙ ap (λ (k : ℕ). old ++ cells_text (take k row)) start) c.cells_of-size.ensures.cells
    ∙ append_assoc old (cells_text (take from row)) (cells_text (take count (drop from row)))
    ∙ ap (λ (xs : List ℕ). old ++ xs)
    (sym (cells_text-append (take from row) (take count (drop from row))) ∙ ap cells_text (sym (take-add from count row))
    ∙ ap (λ (k : ℕ). cells_text (take k row)) next)
