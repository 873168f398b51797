use Rattle.std.proofs.Common.{rules, sym, arith}
use Rattle.attr_bits.proofs.PlaceLemmas.{shown, width_is}
use Rattle.attr_bits.proofs.WordwiseLemmas.{within_no, within_yes}
use Rattle.attr_bits.proofs.Bits.within.Goals as goal

pub returns : goal.returns
returns g c = sym (within_yes (shown c.self.invariant c.self.view_is) (shown c.other.invariant c.other.view_is)
    (λ k h. c.loop-k.invariant k (omega (arith, width_is (shown c.self.invariant c.self.view_is), c.words_reached-k-end.ensures.reached))))

pub within_by_first_word-requires : goal.within_by_first_word-requires
within_by_first_word-requires g c = (search rules, (omega arith, omega (arith, width_is (shown c.self.invariant c.self.view_is))))

pub returns-then-self-k-ne0 : goal.returns-then-self-k-ne0
returns-then-self-k-ne0 g c = sym (within_no (shown c.self.invariant c.self.view_is)
    (shown c.other.invariant c.other.view_is) c.loop-k.k c.if-self-k-ne0.true)
