use Rattle.std.proofs.Common.{◌∙◌, arith}
use Rattle.direct_basis.proofs.LevelLemmas.{first_place_at, first_place_none}
use Rattle.direct_basis.proofs.levels.first_place.Goals as goal

pub returns-in-Some-clause-first : goal.returns-in-Some-clause-first
returns-in-Some-clause-first c =
    let n = c.in-Some.ensures in
    first_place_at c.args.set.now c.in-Some.place n.in_range n.member (λ i h. n.least i (omega arith) h)

pub returns-in-None-clause-first : goal.returns-in-None-clause-first
returns-in-None-clause-first c = c.width.ensures.width ∙ first_place_none c.args.set.now (λ i h. c.in-None.ensures i (omega arith) h)
