use Rattle.std.proofs.Common.{refl, arith}
use Rattle.next_level.proofs.LevelWalkLemmas.{among_from}
use Rattle.next_level.proofs.walk.step_below.Goals as goal

pub child_among-requires : goal.child_among-requires
child_among-requires g c =
    let step = c.args.step.now in
    let list = c.args.rules.now.list in
    let below = c.requires.below in
    let words = c.width-width.ensures.words in
    let among = among_from list list c.args.indexed.now step.set step.from c.args.child.now.attribute step.among.whole step.among.sets.items
    refl below.order c.requires.among in (
      omega arith,
      (
        omega arith,
        (
          omega (arith, words),
          (omega arith, (c.requires.inside, (c.requires.wide, (among, (below.lacks, (below.larger, below.agree)))))),
        ),
      ),
    )
