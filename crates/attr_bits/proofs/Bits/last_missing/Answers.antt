use Rattle.std.proofs.Common.{◌≡◌, ◌+◌, ◌*◌, ◌-◌, arith, subst}
use Rattle.attr_bits.specs.Difference.{minus}
use Rattle.attr_bits.proofs.PlaceLemmas.{shown, width_is}
use Rattle.attr_bits.proofs.LastLemmas.{NoneBetween, none_past, none_missing, none_in_word, last_in_word}
use Rattle.attr_bits.proofs.Bits.last_missing.Goals as goal

pub loop-k-init : goal.loop-k-init
loop-k-init g c =
    let wa = shown c.self.invariant c.self.view_is in
    none_past wa (shown c.other.invariant c.other.view_is) c.args.end c.min-reached.result c.words_reached.result
    (omega (arith, width_is wa, c.words_reached.ensures.reached)) (omega (arith, c.min-reached.ensures, c.div_ceil.ensures))

pub returns-then-lacking-ne0 : goal.returns-then-lacking-ne0
returns-then-lacking-ne0 g c =
    let wa = shown c.self.invariant c.self.view_is in
    let wb = shown c.other.invariant c.other.view_is in
    let next : c.loop-k.k ≡ c.loop-k.k - 1 + 1 = omega (arith, c.loop-k-test.true) in
    last_in_word wa wb c.args.end (c.loop-k.k - 1) c.low_ones.result c.low_ones.ensures c.if-lacking-ne0.true
    (subst (λ k. NoneBetween (minus c.args.self.now c.args.other.now) (64 * k) c.args.end) next c.loop-k.invariant)

pub loop-k-preserved : goal.loop-k-preserved
loop-k-preserved g c =
    let wa = shown c.self.invariant c.self.view_is in
    let wb = shown c.other.invariant c.other.view_is in
    let next : c.loop-k.k ≡ c.loop-k.k - 1 + 1 = omega (arith, c.loop-k-test.true) in
    none_in_word wa wb c.args.end (c.loop-k.k - 1) c.low_ones.result c.low_ones.ensures c.if-lacking-ne0.false
    (subst (λ k. NoneBetween (minus c.args.self.now c.args.other.now) (64 * k) c.args.end) next c.loop-k.invariant)

pub returns : goal.returns
returns g c =
    none_missing (shown c.self.invariant c.self.view_is) (shown c.other.invariant c.other.view_is) c.args.end c.loop-k.k
    (omega (arith, c.loop-k-test.false)) c.loop-k.invariant
