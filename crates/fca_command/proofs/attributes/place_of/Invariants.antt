use Rattle.std.proofs.Common.{◌≡◌, ◌<◌, ℕ, [], false, bytes_eq, get_or}
use Rattle.fca_command.proofs.attributes.place_of.Given as goal

abbrev pub invariant-loop-place : goal.invariant-loop-place
invariant-loop-place l = (k : ℕ) → k < l.place → bytes_eq l.name (get_or l.table.attributes k []) ≡ false
