use Rattle.std.proofs.Common.{◌∙◌, sym}
use Rattle.csv.specs.Records.{fields_of}
use Rattle.value_tables.proofs.FieldLemmas.{first_bad_more, first_bad_here}
use Rattle.value_tables.proofs.fields.first_bad.Goals as goal

pub returns-then-not-admits : goal.returns-then-not-admits
returns-then-not-admits c =
    sym (first_bad_here c.args.kind (fields_of c.args.fields.now) c.loop-place.place c.field_at.result.now c.field_at.ensures
    (sym c.admits.ensures ∙ c.if-not-admits.true))
    ∙ c.loop-place.invariant

pub loop-place-preserved : goal.loop-place-preserved
loop-place-preserved c =
    sym (first_bad_more c.args.kind (fields_of c.args.fields.now) c.loop-place.place c.field_at.result.now c.field_at.ensures
    (sym c.admits.ensures ∙ c.if-not-admits.false))
    ∙ c.loop-place.invariant
