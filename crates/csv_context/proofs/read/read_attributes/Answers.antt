use Rattle.std.proofs.Common.{◌≡◌, ◌⊎◌, ◌∙◌, ◌+◌, ◌++◌, ◌∷◌, ℕ, [], Err, drop, sym, ap, inl, inr}
use Rattle.std.proofs.lemmas.List.{length_push}
use Rattle.csv.specs.Records.{fields_of}
use Rattle.csv_context.specs.Form.{attributes_form}
use Rattle.csv_context.specs.declared.CsvFault.TheVariants as fault
use Rattle.csv_context.proofs.FieldLemmas.{field-text}
use Rattle.csv_context.proofs.FormLemmas.{TellsBy-passed, attributes_form-Ok, attributes_form-Err, first_repeat-append}
use Rattle.csv_context.proofs.read.read_attributes.Goals as goal

pub attribute_of-requires : goal.attribute_of-requires
attribute_of-requires c = field-text (fields_of c.args.fields.now) c.loop-place.place c.field_at-field.result.now c.requires.text
    c.field_at-field.ensures

pub returns-in_err-attribute_of-clause-form : goal.returns-in_err-attribute_of-clause-form
returns-in_err-attribute_of-clause-form c =
    let e = c.in_err-attribute_of.field-0.0 in
    let loop = c.loop-place in
    let fields = fields_of c.args.fields.now in
    let why : (e ≡ fault.Memory) ⊎ (attributes_form [] 2 (drop 1 fields) ≡ Err e) = elim c.in_err-attribute_of.ensures.form [
      | inl is ↦ inl is
      | inr is ↦ inr (sym loop.invariant.2 ∙ attributes_form-Err loop.names.keys fields loop.place c.field_at-field.result.now
          c.field_at-field.ensures e is)
    ] in
    TellsBy-passed (λ names. names.keys) c.from_residual.result (attributes_form [] 2 (drop 1 fields)) e c.from_residual.ensures why

pub loop-place-preserved : goal.loop-place-preserved
loop-place-preserved c =
    let loop = c.loop-place in
    let name = c.in_ok-attribute_of.field-0 in
    let new = c.in_ok-attribute_of.ensures.new in
    let keys : c.insert.new.self.keys ≡ loop.names.keys ++ name ∷ [] = rw new at c.in_ok-insert.ensures.keys in (
      rw keys (ap (λ (n : ℕ). n + 1) (length_push loop.names.keys name ∙ loop.invariant.0)),
      rw keys (first_repeat-append loop.names.keys name loop.invariant.1 new),
      rw keys
          (sym (attributes_form-Ok loop.names.keys (fields_of c.args.fields.now) loop.place c.field_at-field.result.now
          c.field_at-field.ensures name c.in_ok-attribute_of.ensures.form)
          ∙ loop.invariant.2),
    )
