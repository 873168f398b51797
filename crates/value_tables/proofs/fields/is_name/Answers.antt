use Rattle.std.proofs.Common.{◌∙◌, not, sym, ap, lt-ltb, le-ltb}
use Rattle.value_tables.proofs.FieldLemmas.{is_name_empty, is_name_long, is_name_short}
use Rattle.value_tables.proofs.fields.is_name.Goals as goal

pub returns-then-is_empty : goal.returns-then-is_empty
returns-then-is_empty c = is_name_empty c.args.field.now (sym c.is_empty.ensures ∙ c.if-is_empty.true)

pub returns-then-field-gt-MAX_NAME_BYTES : goal.returns-then-field-gt-MAX_NAME_BYTES
returns-then-field-gt-MAX_NAME_BYTES c = is_name_long c.args.field.now (sym c.is_empty.ensures ∙ c.if-is_empty.false)
    (lt-ltb _ _ c.if-field-gt-MAX_NAME_BYTES.true)

pub returns : goal.returns
returns c =
    ap not c.has_line_break.ensures ∙ is_name_short c.args.field.now (sym c.is_empty.ensures ∙ c.if-is_empty.false)
    (le-ltb _ _ c.if-field-gt-MAX_NAME_BYTES.false)
