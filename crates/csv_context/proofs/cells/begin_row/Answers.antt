use Rattle.std.proofs.Common.{◌≡◌, ◌∙◌, ◌+◌, ℕ, Bool, true, false, Ok, cond, length, set, refl, sym, ap, subst, arith}
use Rattle.std.proofs.lemmas.List.{length-replicate, length-set}
use Rattle.fca_model.specs.Sets.{Set}
use Rattle.csv_context.specs.Form.{cell_by, cell_form}
use Rattle.csv_context.specs.Lines.{fields_in}
use Rattle.csv_context.specs.Cells.{ReadTo}
use Rattle.csv_context.proofs.FormLemmas.{ReadTo-zero, ReadTo-more, left-field}
use Rattle.csv_context.proofs.cells.begin_row.Goals as goal

pub loop-left-init : goal.loop-left-init
loop-left-init c =
    let width : ℕ = c.args.width in
    record {
      wide = ap length c.empty-row.ensures ∙ length-replicate width false;
      within = omega arith;
      read = λ i. subst (λ (row : Set). ReadTo i width (fields_in c.args.cells.now) row 0) (sym c.empty-row.ensures)
          (ReadTo-zero i width (fields_in c.args.cells.now));
      left = refl;
    }

pub put_cell-requires : goal.put_cell-requires
put_cell-requires c = omega (arith, c.loop-left.invariant.wide, c.if-place-width.true)

pub loop-left-preserved : goal.loop-left-preserved
loop-left-preserved c =
    let loop = c.loop-left in
    let cell = c.first_cell-cell in
    let width : ℕ = c.args.width in
    let cells = fields_in c.args.cells.now in
    let takes = cell.ensures.cell c.if-not-cell.false in
    let found = left-field cells loop.place takes.field (fields_in cell.result.behind.now) (loop.invariant.left ∙ takes.fields) in
    record {
      wide = ap length c.put_cell.ensures ∙ length-put loop.row loop.place cell.result.is_short_cross ∙ loop.invariant.wide;
      within = omega (arith, c.if-place-width.true);
      read = λ i.
          let says : cell_form i (loop.place + 2) takes.field ≡ Ok cell.result.is_short_cross = ap (cell_by i (loop.place + 2)) takes.says in
          subst (λ (row : Set). ReadTo i width cells row (loop.place + 1)) (sym c.put_cell.ensures)
          (ReadTo-more i width cells loop.row loop.place takes.field found.0
          (loop.invariant.read i) cell.result.is_short_cross c.if-place-width.true says);
      left = found.1;
    }
  where
    length-put : (row : Set) (place : ℕ) (cross : Bool) → length (cond cross (set row place true) row) ≡ length row
    length-put row place true = length-set row place true
    length-put row place false = refl
