use Rattle.std.proofs.Common.{◌≡◌}
use Rattle.context_table.specs.Generated.{numbered_names}
use Rattle.context_table.proofs.generated.numbered_names.Given as goal

abbrev pub invariant-loop-i : goal.invariant-loop-i
invariant-loop-i l = l.names.items ≡ numbered_names l.letter l.i
