use Rattle.cxt_format.proofs.LineFormLemmas.{wide-row_form}
use Rattle.cxt_format.proofs.read.next_row.Goals as goal

pub returns-in-Some-clause-wide : goal.returns-in-Some-clause-wide
returns-in-Some-clause-wide g c = rw c.row_of.ensures (wide-row_form c.args.width c.in-Some.number c.as_bytes.result.now)
