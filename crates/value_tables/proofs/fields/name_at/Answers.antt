use Rattle.std.proofs.Common.{◌≡◌, ◌∙◌, [], IfOk, get_or, sym, ap, subst}
use Rattle.std.proofs.lemmas.Option.{get_or_from_slice_get}
use Rattle.csv.specs.Records.{fields_of}
use Rattle.fca_model.specs.Tables.{Text}
use Rattle.fca_model.specs.Names.{name_fault}
use Rattle.csv_context.proofs.FieldLemmas.{field-text}
use Rattle.value_tables.proofs.fields.name_at.Goals as goal

pub as_text-requires : goal.as_text-requires
as_text-requires c = field-text (fields_of c.args.fields.now) c.args.place c.field_at.result.now c.requires.text c.field_at.ensures

pub name_of-requires : goal.name_of-requires
name_of-requires c =
    let is : get_or (fields_of c.args.fields.now) c.args.place [] ≡ c.field_at.result.now =
    get_or_from_slice_get (fields_of c.args.fields.now) c.args.place c.field_at.result.now [] (sym c.field_at.ensures) in
    ap name_fault (c.as_text.ensures ∙ sym is) ∙ c.requires.faultless

pub returns : goal.returns
returns c =
    let is : get_or (fields_of c.args.fields.now) c.args.place [] ≡ c.field_at.result.now =
    get_or_from_slice_get (fields_of c.args.fields.now) c.args.place c.field_at.result.now [] (sym c.field_at.ensures) in
    let P : Text → Type 0 = λ text. IfOk c.name_of.result (λ name. name ≡ text) in
    subst P (c.as_text.ensures ∙ sym is) c.name_of.ensures
