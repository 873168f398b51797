use Rattle.std.proofs.Common.{◌∙◌}
use Rattle.csv.specs.Records.{fields_of}
use Rattle.csv_context.proofs.FieldLemmas.{field_at-slice_get, field_at-within}
use Rattle.csv_context.proofs.fields.field_at.Goals as goal

pub unreachable-requires : goal.unreachable-requires
unreachable-requires c = field_at-within (fields_of c.args.fields.now) c.args.place c.requires c.in-None.ensures.value

pub returns : goal.returns
returns c = c.in-Some.ensures.value ∙ field_at-slice_get (fields_of c.args.fields.now) c.args.place
