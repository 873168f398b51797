use Rattle.std.proofs.Common.{◌∙◌}
use Rattle.implication_closure.proofs.ClosingLemmas.{follows_by_closure}
use Rattle.implication_closure.proofs.ImplicationListOf.follows.Goals as goal

pub returns : goal.returns
returns g c = c.within.ensures ∙ follows_by_closure c.args.self.now.width c.args.self.now.members c.args.p.now c.args.c.now
    c.naive_closure.result c.requires.premise c.naive_closure.ensures
