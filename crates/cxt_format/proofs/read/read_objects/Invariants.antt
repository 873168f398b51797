use Rattle.std.proofs.Common.{◌≡◌, ◌-◌, [], vec_len}
use Rattle.cxt_format.specs.Form.{objects_form}
use Rattle.cxt_format.proofs.read.read_objects.Given as goal

abbrev pub invariant-loop-place : goal.invariant-loop-place
invariant-loop-place l =
    (vec_len l.names ≡ l._place) × (objects_form l.names.items (l.count - l._place) l.lines ≡ objects_form [] l.count l.fn.lines)
