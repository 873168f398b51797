use Rattle.std.proofs.Common.{◌≡◌, ◌∙◌, ◌≤◌, [], Bool, true, false, not, length, get_or, sym, ap, arith, eqb}
use Rattle.std.proofs.lemmas.Option.{get_or_from_slice_get}
use Rattle.std.specs.List.{list_any}
use Rattle.csv.specs.Records.{fields_of}
use Rattle.fca_model.specs.Names.{is_line_break}
use Rattle.std.proofs.lemmas.Bool.{not-true}
use Rattle.value_tables.proofs.FieldLemmas.{bad_field-none_from}
use Rattle.value_tables.proofs.read.are_all_good.Goals as goal

pub returns : goal.returns
returns c all =
    let row = c.args.fields.now in
    let text = c.as_slice-text.ensures in
    let few : length row.bytes ≤ 255 = omega (arith, c.if-text-gt-MAX_NAME_BYTES.false, ap length text) in
    let unbroken = ap (list_any is_line_break) (sym text) ∙ sym c.has_line_break.ensures ∙ not-true c.has_line_break.result all in
    let first = get_or_from_slice_get (fields_of row) 0 c.field_at.result.now [] (sym c.field_at.ensures) in
    let some : eqb (length (get_or (fields_of row) 0 [])) 0 ≡ false = ap (λ f. eqb (length f) 0) first ∙ sym c.is_empty.ensures
    ∙ c.if-is_empty.false in
    bad_field-none_from row.bytes few unbroken row.ends some
