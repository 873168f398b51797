use Rattle.std.proofs.Common.{◌∙◌, ◌+◌, ◌++◌, ◌∷◌, [], List, drop, refl, sym, ap, append_assoc}
use Rattle.csv.specs.Records.{fields_of}
use Rattle.fca_model.specs.Tables.{Text}
use Rattle.text_pieces.proofs.ItemLemmas.{drop-item}
use Rattle.value_tables.specs.Cells.{texts}
use Rattle.value_tables.specs.declared.fields.FieldKind.TheVariants as kind
use Rattle.value_tables.proofs.FieldLemmas.{bad_field_none, first_bad_more, first_bad_none, value_short}
use Rattle.value_tables.proofs.read.push_values.Goals as goal

pub loop-place-init : goal.loop-place-init
loop-place-init c = record {
  cells = c.requires.cells;
  good = (bad_field_none (fields_of c.args.fields.now) c.requires.good).1;
  texts = refl;
}

pub push-requires-clause-short : goal.push-requires-clause-short
push-requires-clause-short c =
    value_short c.field_at.result.now (first_bad_none kind.Value
    (fields_of c.args.fields.now) c.loop-place.place c.field_at.result.now c.field_at.ensures c.loop-place.invariant.good)

pub loop-place-preserved : goal.loop-place-preserved
loop-place-preserved c =
    let fields = fields_of c.args.fields.now in
    let place = c.loop-place.place in
    let field = c.field_at.result.now in
    let loop = c.loop-place in
    let is = first_bad_none kind.Value fields place field c.field_at.ensures loop.invariant.good in
    record {
      cells = c.in_ok-push.ensures.cells;
      good = sym (first_bad_more kind.Value fields place field c.field_at.ensures is) ∙ loop.invariant.good;
      texts =
          ap (λ (ts : List Text). ts ++ drop (place + 1) fields) c.in_ok-push.ensures.texts
          ∙ append_assoc (texts loop.cells) (field ∷ []) (drop (place + 1) fields)
          ∙ ap (λ (ts : List Text). texts loop.cells ++ ts) (sym (drop-item fields place field (sym c.field_at.ensures)))
          ∙ loop.invariant.texts;
    }
