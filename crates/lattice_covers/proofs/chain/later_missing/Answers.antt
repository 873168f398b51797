use Rattle.std.proofs.Common.{◌≡◌, rules, true, false, length, get_or, ap, subst, arith}
use Rattle.fca_model.specs.Sets.{Set}
use Rattle.attr_bits.specs.Difference.{minus}
use Rattle.attr_bits.proofs.DifferenceLemmas.{length-minus, lacked}
use Rattle.lattice_covers.proofs.chain.later_missing.Goals as goal

pub next_member-requires : goal.next_member-requires
next_member-requires g c =
    let wide : length c.minus.result ≡ length (minus c.args.closed.now c.args.allowed.now) = ap length c.minus.ensures in
    (search rules, omega (arith, wide, length-minus c.args.closed.now c.args.allowed.now, c.requires.inside, c.if-known-i.true))

pub returns-in-Some-clause-member : goal.returns-in-Some-clause-member
returns-in-Some-clause-member g c =
    (lacked c.args.closed.now c.args.allowed.now c.in-Some.later
    (subst (λ (X : Set). get_or X c.in-Some.later false ≡ true) c.minus.ensures c.in-Some.ensures.member)).0

pub returns-in-Some-clause-lacks : goal.returns-in-Some-clause-lacks
returns-in-Some-clause-lacks g c =
    (lacked c.args.closed.now c.args.allowed.now c.in-Some.later
    (subst (λ (X : Set). get_or X c.in-Some.later false ≡ true) c.minus.ensures c.in-Some.ensures.member)).1
