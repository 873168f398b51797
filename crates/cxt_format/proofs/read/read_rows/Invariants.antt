use Rattle.std.proofs.Common.{◌≡◌, ◌-◌, [], length}
use Rattle.cxt_format.specs.Form.{rows_form}
use Rattle.cxt_format.proofs.read.read_rows.Given as goal

abbrev pub invariant-loop-place : goal.invariant-loop-place
invariant-loop-place g l =
    (length l.rows.rows ≡ l._place) × (l.rows.width ≡ l.width)
    × (rows_form l.width l.rows.rows (l.count - l._place) l.lines ≡ rows_form l.width [] l.count l.fn.lines)
