use Rattle.std.proofs.Common.{arith}
use Rattle.attr_bits.proofs.PlaceLemmas.{shown, width_is}
use Rattle.attr_bits.proofs.Bits.words_reached.Goals as goal

pub returns-then-this-le-FEW_WORDS-clause-counted : goal.returns-then-this-le-FEW_WORDS-clause-counted
returns-then-this-le-FEW_WORDS-clause-counted g c = omega (arith, width_is (shown c.self.invariant c.self.view_is))

pub returns-then-this-le-FEW_WORDS-clause-reached : goal.returns-then-this-le-FEW_WORDS-clause-reached
returns-then-this-le-FEW_WORDS-clause-reached g c = omega (arith, width_is (shown c.self.invariant c.self.view_is), c.self.invariant.narrow)

pub returns-else-this-le-FEW_WORDS-clause-counted : goal.returns-else-this-le-FEW_WORDS-clause-counted
returns-else-this-le-FEW_WORDS-clause-counted g c = omega (arith, width_is (shown c.self.invariant c.self.view_is))

pub returns-else-this-le-FEW_WORDS-clause-reached : goal.returns-else-this-le-FEW_WORDS-clause-reached
returns-else-this-le-FEW_WORDS-clause-reached g c = omega (arith, width_is (shown c.self.invariant c.self.view_is))
