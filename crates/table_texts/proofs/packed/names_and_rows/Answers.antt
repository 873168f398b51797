use Rattle.std.proofs.Common.{◌∙◌, List, length, sym, ap, ap₂, arith}
use Rattle.fca_model.specs.Context.{Context}
use Rattle.fca_model.specs.Tables.{Text}
use Rattle.packed_concepts.specs.Lines.{TableNames}
use Rattle.table_texts.proofs.packed.names_and_rows.Goals as goal

pub returns-in-Ok : goal.returns-in-Ok
returns-in-Ok c =
    let parts = c.into_parts-objects in
    record {
      names = c.in-Ok.ensures ∙ ap₂ {C = TableNames} (λ (xs ys : List Text). record { attributes = xs; objects = ys })
          parts.ensures.attributes parts.ensures.objects;
      rows = parts.ensures.context;
      each_attribute = ap length (sym parts.ensures.attributes) ∙ c.rows-rows.ensures.table.each_attribute ∙ parts.ensures.width;
      each_object = omega (arith, ap length parts.ensures.objects, parts.ensures.each_object, parts.result.0.ok.0);
      few_objects = omega (
        arith,
        ap (λ (K : Context). length K.rows) parts.ensures.context,
        parts.ensures.each_object,
        parts.ensures.few_objects,
        parts.result.0.ok.0,
      );
    }
