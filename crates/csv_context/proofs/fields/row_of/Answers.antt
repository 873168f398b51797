use Rattle.std.proofs.Common.{◌≡◌, ◌∙◌, ◌+◌, Some, drop, slice_get, sym, subst}
use Rattle.fca_model.specs.Sets.{Set}
use Rattle.csv.specs.Records.{fields_of}
use Rattle.csv_context.specs.Cells.{ReadTo}
use Rattle.csv_context.proofs.FormLemmas.{ReadTo-more, Err-passed, row_form-Err, slice_get-behind}
use Rattle.csv_context.proofs.fields.row_of.Goals as goal

pub returns-in_err-cross-clause-form : goal.returns-in_err-cross-clause-form
returns-in_err-cross-clause-form c =
    let e = c.in_err-cross.field-0.0 in
    let loop = c.loop-place in
    let fields = fields_of c.args.fields.now in
    let field = c.field_at-field.result.now in
    let at : Some field ≡ slice_get (drop 1 fields) loop.place = c.field_at-field.ensures ∙ sym (slice_get-behind fields loop.place) in
    Err-passed c.from_residual.result e c.from_residual.ensures
    ∙ sym (row_form-Err c.args.i c.args.width (drop 1 fields) loop.row loop.place field at loop.invariant e (sym c.in_err-cross.ensures))

pub loop-place-preserved : goal.loop-place-preserved
loop-place-preserved c =
    let loop = c.loop-place in
    let fields = fields_of c.args.fields.now in
    let field = c.field_at-field.result.now in
    let at : Some field ≡ slice_get (drop 1 fields) loop.place = c.field_at-field.ensures ∙ sym (slice_get-behind fields loop.place) in
    subst (λ (row : Set). ReadTo c.args.i c.args.width (drop 1 fields) row (loop.place + 1)) (sym c.put_cell.ensures)
    (ReadTo-more c.args.i c.args.width (drop 1 fields) loop.row loop.place field at loop.invariant c.in_ok-cross.cross
    c.loop-place-test.true (sym c.in_ok-cross.ensures))
