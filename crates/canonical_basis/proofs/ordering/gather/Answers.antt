use Rattle.canonical_basis.proofs.OrderLemmas.{gathered_more}
use Rattle.canonical_basis.proofs.ordering.gather.Goals as goal

pub loop-i-preserved : goal.loop-i-preserved
loop-i-preserved c = λ A. gathered_more c.args.members.now c.loop-i.i-index c.i-item.result c.loop-i.sets.keys c.insert.new.self.keys A
    c.loop-i-test.true c.i-item.is c.in_ok-insert.ensures.keys (c.loop-i.invariant A)
