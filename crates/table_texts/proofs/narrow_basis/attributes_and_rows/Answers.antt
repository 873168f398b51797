use Rattle.std.proofs.Common.{◌∙◌, length, sym, ap, arith}
use Rattle.fca_model.specs.Context.{Context}
use Rattle.table_texts.proofs.narrow_basis.attributes_and_rows.Goals as goal

pub returns-in-Ok : goal.returns-in-Ok
returns-in-Ok c =
    let parts = c.into_parts-objects in
    record {
      names = c.in-Ok.ensures ∙ parts.ensures.attributes;
      rows = parts.ensures.context;
      each_attribute = ap (λ (K : Context). K.width) parts.ensures.context ∙ sym parts.ensures.width
          ∙ sym c.rows-rows.ensures.table.each_attribute ∙ ap length parts.ensures.attributes;
      few_attributes = omega (
        arith,
        ap (λ (K : Context). K.width) parts.ensures.context,
        parts.ensures.width,
        c.rows-rows.ensures.table.few_attributes,
      );
    }
