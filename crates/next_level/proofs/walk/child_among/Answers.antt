use Rattle.std.proofs.Common.{◌<◌, ◌+◌, length, refl, sym, subst, arith}
use Rattle.next_level.specs.Among.{AreAmong}
use Rattle.next_level.proofs.LevelWalkLemmas.{among_child}
use Rattle.next_level.proofs.walk.child_among.Goals as goal

pub returns : goal.returns
returns g c =
    let wide = c.requires.wide in
    let inside : c.args.i < length c.args.a.now = omega (arith, wide, c.requires.inside) in
    let told = c.in_ok-part.ensures in
    subst (λ b. AreAmong c.args.rules.now.list.members c.args.indexed.now c.args.child.now (c.args.i + 1) b c.in_ok-part.part.sets.items)
    (sym told.0)
    (among_child c.args.rules.now.list c.args.rules.now.list c.args.indexed.now c.args.a.now c.args.i c.args.i c.args.among.now.whole
    c.args.among.now.sets.items c.in_ok-part.part.sets.items c.in_ok-part.part.sets.items c.args.child.now
    c.requires.among refl (omega arith) c.requires.lacks (λ e. told.1) refl c.requires.larger inside c.requires.agree)
