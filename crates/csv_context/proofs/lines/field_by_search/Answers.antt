use Rattle.csv_context.proofs.LineLemmas.{next_field-None, next_field-Some}
use Rattle.csv_context.proofs.lines.field_by_search.Goals as goal

pub returns-in-Some : goal.returns-in-Some
returns-in-Some c = next_field-Some c.args.line.now c.in-Some.comma c.in-Some.ensures

pub returns-in-None : goal.returns-in-None
returns-in-None c = next_field-None c.args.line.now c.in-None.ensures
