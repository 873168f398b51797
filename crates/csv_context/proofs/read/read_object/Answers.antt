use Rattle.csv.specs.Records.{fields_of}
use Rattle.csv_context.proofs.FieldLemmas.{field-text}
use Rattle.csv_context.proofs.read.read_object.Goals as goal

pub name_of-requires : goal.name_of-requires
name_of-requires c = field-text (fields_of c.args.fields.now) 0 c.field_at.result.now c.requires.text c.field_at.ensures
