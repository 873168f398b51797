use Rattle.std.proofs.Common.{arith}
use Rattle.attr_bits.proofs.PlaceLemmas.{shown, width_is}
use Rattle.attr_bits.proofs.Bits.reach_of_either.Goals as goal

pub returns-then-self-other-clause-reached : goal.returns-then-self-other-clause-reached
returns-then-self-other-clause-reached g c =
    omega (
      arith,
      width_is (shown c.self.invariant c.self.view_is),
      width_is (shown c.other.invariant c.other.view_is),
      c.if-self-other.true,
      c.reach.ensures.reached,
    )

pub returns-else-self-other-clause-other : goal.returns-else-self-other-clause-other
returns-else-self-other-clause-other g c =
    omega (
      arith,
      width_is (shown c.self.invariant c.self.view_is),
      width_is (shown c.other.invariant c.other.view_is),
      c.if-self-other.false,
      c.reach-else-self-other.ensures.reached,
    )
