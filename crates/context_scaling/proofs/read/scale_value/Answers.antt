use Rattle.std.proofs.Common.{◌≡◌, ◌∙◌, [], ℤ, Option, get_or, pos, sym, ap, rules, to_z-of_z, w64, SFits}
use Rattle.std.specs.Prelude.{unwrap_or}
use Rattle.std.proofs.lemmas.Option.{get_or_from_slice_get}
use Rattle.csv.specs.Records.{fields_of}
use Rattle.value_tables.specs.Numbers.{number_of}
use Rattle.context_scaling.specs.declared.scales.ScaleValue.TheVariants as value
use Rattle.context_scaling.proofs.ReadLemmas.{number_value}
use Rattle.context_scaling.proofs.read.scale_value.Goals as goal

pub returns-in-Ordinal : goal.returns-in-Ordinal
returns-in-Ordinal c =
    let n = c.unwrap_or.result in
    let text = get_or (fields_of c.args.fields.now) c.args.place [] in
    let fits : SFits w64 n = search rules in
    let field = sym (get_or_from_slice_get (fields_of c.args.fields.now) c.args.place c.field_at.result.now [] (sym c.field_at.ensures)) in
    let is : n ≡ unwrap_or (number_of text) (pos 0) = c.unwrap_or.ensures
    ∙ ap (λ (o : Option ℤ). unwrap_or o (pos 0)) (c.number_of.ensures ∙ ap number_of field) in
    ap value.Number (to_z-of_z fits) ∙ number_value c.args.kind text n c.in-Ordinal.is is
