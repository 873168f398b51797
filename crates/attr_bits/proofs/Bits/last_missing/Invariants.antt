use Rattle.std.proofs.Common.{◌*◌}
use Rattle.attr_bits.specs.Difference.{minus}
use Rattle.attr_bits.proofs.LastLemmas.{NoneBetween}
use Rattle.attr_bits.proofs.Bits.last_missing.Given as goal

abbrev pub invariant-loop-k : goal.invariant-loop-k
invariant-loop-k g l = NoneBetween (minus l.fn.self l.fn.other) (64 * l.k) l.fn.end
