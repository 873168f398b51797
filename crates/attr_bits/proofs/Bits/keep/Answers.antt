use Rattle.std.proofs.Common.{arith}
use Rattle.attr_bits.proofs.PlaceLemmas.{shown, width_is}
use Rattle.attr_bits.proofs.WordwiseLemmas.{meet_is}
use Rattle.attr_bits.proofs.Bits.keep.Goals as goal

pub invariant_of-self : goal.invariant_of-self
invariant_of-self g c =
    let w = shown c.self.invariant c.self.view_is in
    let met = c.loop-k.invariant in
    rw met.width (meet_is w (shown c.other.invariant c.other.view_is) c.loop-k.self-inside.words met.count c.loop-k.k
    (omega (arith, width_is w, c.reach-k-end.ensures.reached)) met.done met.rest).fits

pub returns : goal.returns
returns g c =
    let w = shown c.self.invariant c.self.view_is in
    let met = c.loop-k.invariant in
    rw met.width (meet_is w (shown c.other.invariant c.other.view_is) c.loop-k.self-inside.words met.count c.loop-k.k
    (omega (arith, width_is w, c.reach-k-end.ensures.reached)) met.done met.rest).view
