use Rattle.std.proofs.Common.{◌≡◌, ◌-◌, [], length}
use Rattle.cxt_format.specs.Form.{attributes_form}
use Rattle.cxt_format.proofs.read.read_new_names.Given as goal

abbrev pub invariant-loop-place : goal.invariant-loop-place
invariant-loop-place l =
    (length l.names.keys ≡ l._place) × (attributes_form l.names.keys (l.count - l._place) l.lines ≡ attributes_form [] l.count l.fn.lines)
