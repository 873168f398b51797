use Rattle.std.proofs.Common.{◌≡◌, ◌∙◌, ◌+◌, ◌∷◌, ℕ, drop, length, length-drop, sym, ap, subst, arith}
use Rattle.fca_model.specs.Sets.{Set}
use Rattle.csv_context.specs.Cells.{ReadTo}
use Rattle.csv_context.specs.Lines.{fields_behind, fields_in}
use Rattle.csv_context.proofs.FormLemmas.{ReadTo-more, left-field}
use Rattle.csv_context.proofs.fields.row_of_cells.Goals as goal

pub unreachable-requires : goal.unreachable-requires
unreachable-requires c =
    let cells = fields_in c.args.cells.now in
    let place : ℕ = c.loop-place.place in
    let none : length (drop place cells) ≡ 0 = ap length (c.loop-place.invariant.left ∙ ap fields_behind c.in_default.is) in
    omega (arith, none, length-drop place cells, c.requires.whole, c.loop-place-test.true)

pub loop-place-preserved : goal.loop-place-preserved
loop-place-preserved c =
    let loop = c.loop-place in
    let cells = fields_in c.args.cells.now in
    let next = c.next_field in
    let field = next.result.0.now in
    let left : drop loop.place cells ≡ field ∷ fields_behind next.result.1 = loop.invariant.left ∙ ap fields_behind c.in-Some.is
    ∙ next.ensures in
    let found = left-field cells loop.place field (fields_behind next.result.1) left in
    record {
      read = subst (λ (row : Set). ReadTo c.args.i c.args.width cells row (loop.place + 1)) (sym c.put_cell.ensures)
          (ReadTo-more c.args.i c.args.width cells loop.row loop.place field found.0 loop.invariant.read c.in_ok-cross.cross
          c.loop-place-test.true (sym c.in_ok-cross.ensures));
      left = found.1;
    }
