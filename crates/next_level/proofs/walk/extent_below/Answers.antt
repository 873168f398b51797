use Rattle.std.proofs.Common.{refl, set, true}
use Rattle.fca_model.specs.Context.{closure}
use Rattle.next_level.proofs.LevelWalkLemmas.{extent_below}
use Rattle.next_level.proofs.walk.extent_below.Goals as goal

pub returns-then-is_shared : goal.returns-then-is_shared
returns-then-is_shared g c =
    let X = set c.args.a.now c.args.i true in
    extent_below c.args.indexed.now c.args.a.now c.args.i c.args.larger.now X c.requires.wide c.requires.larger refl
    c.args.extent.now c.set_having.new.self c.requires.extent c.requires.inside (closure c.args.indexed.now X) refl
    (c.is_shared.ensures c.if-is_shared.true) c.in_ok-set_having.ensures
