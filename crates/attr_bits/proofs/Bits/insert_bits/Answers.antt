use Rattle.std.proofs.Common.{arith}
use Rattle.attr_bits.proofs.PlaceLemmas.{shown, width_is}
use Rattle.attr_bits.proofs.BlockLemmas.{block_fits, block_wide, block_members}
use Rattle.attr_bits.proofs.Bits.insert_bits.Goals as goal

pub overflow_sub-self-inside : goal.overflow_sub-self-inside
overflow_sub-self-inside g c = omega (arith, width_is (shown c.self.invariant c.self.view_is), c.requires.inside)

pub bounds-self-inside-from : goal.bounds-self-inside-from
bounds-self-inside-from g c = omega (arith, width_is (shown c.self.invariant c.self.view_is), c.requires.inside, c.self.invariant.narrow)

pub bounds-self-inside-from-2 : goal.bounds-self-inside-from-2
bounds-self-inside-from-2 g c = omega (arith, width_is (shown c.self.invariant c.self.view_is), c.requires.inside, c.self.invariant.narrow)

pub invariant_of-self : goal.invariant_of-self
invariant_of-self g c = block_fits (shown c.self.invariant c.self.view_is) c.args.from c.args.bits c.low_ones.result c.requires.aligned
    c.requires.inside c.ranges.bits.fits c.low_ones.ensures

pub returns-clause-width : goal.returns-clause-width
returns-clause-width g c = block_wide (shown c.self.invariant c.self.view_is) c.args.from c.args.bits c.low_ones.result c.requires.aligned
    c.requires.inside c.ranges.bits.fits c.low_ones.ensures

pub returns-clause-members : goal.returns-clause-members
returns-clause-members g c = block_members (shown c.self.invariant c.self.view_is) c.args.from c.args.bits c.low_ones.result
    c.requires.aligned c.requires.inside c.ranges.bits.fits c.low_ones.ensures
