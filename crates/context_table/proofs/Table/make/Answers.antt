use Rattle.std.proofs.Common.{length, ap, ap₂, sym, ◌∙◌, arith, None, Err}
use Rattle.std.proofs.lemmas.List.FromFn.{length-map-range_with_len}
use Rattle.std.proofs.lemmas.Option.{none-some}
use Rattle.fca_model.specs.Context.{Context}
use Rattle.context_table.specs.Table.{first_repeat}
use Rattle.context_table.specs.Generated.{made_table, rows_from}
use Rattle.context_table.proofs.NumberLemmas.{first_repeat-numbered_names}
use Rattle.context_table.proofs.Table.make.Goals as goal

pub new-requires-2-clause-attributes : goal.new-requires-2-clause-attributes
new-requires-2-clause-attributes c =
    let width = ap (λ (K : Context). K.width) c.in_ok-rows.ensures in
    let many = ap length c.in_ok-attributes.ensures ∙ length-map-range_with_len _ 0 c.args.attributes in
    rw width (omega (arith, many))

-- each object has a number within the limit
pub unreachable-requires : goal.unreachable-requires
unreachable-requires c =
    let many = ap length c.in_ok-objects.ensures ∙ length-map-range_with_len _ 0 c.args.objects in
    omega (arith, many, c.in-Err-TooMany.ensures.too_many.0 (ap Err c.in-Err-TooMany.field-0-is))

pub unreachable-requires-in-Err-DuplicateAttribute : goal.unreachable-requires-in-Err-DuplicateAttribute
unreachable-requires-in-Err-DuplicateAttribute c =
    let fault = c.in-Err-DuplicateAttribute in
    let repeat = fault.ensures.repeated fault.field-0-0 (ap Err fault.field-0-is) in
    let once = ap first_repeat c.in_ok-attributes.ensures ∙ first_repeat-numbered_names 109 c.args.attributes (omega arith) in
    none-some _ (sym once ∙ repeat)

pub returns-in-Ok : goal.returns-in-Ok
unfolding made_table
returns-in-Ok c =
    let rows = c.in_ok-rows.ensures ∙ ap₂ (λ d x. record {
      width = c.args.attributes;
      rows = rows_from d c.args.objects c.args.attributes x;
    }) c.new.ensures.density c.new.ensures.state in
    c.in-Ok.ensures.table ∙ (λ i. record {
      title = None;
      objects = c.in_ok-objects.ensures i;
      attributes = c.in_ok-attributes.ensures i;
      context = rows i;
    })
