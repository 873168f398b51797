use Rattle.std.proofs.Common.{◌<◌, ◌-◌, ℕ, length, vec_len, sym, ap, subst, arith}
use Rattle.std.proofs.lemmas.List.{length-take-le}
use Rattle.std.proofs.lemmas.List.Elements.{All-take}
use Rattle.lattice_covers.specs.Neighbours.{IsLink, AreLinks}
use Rattle.lattice_covers.proofs.chain.link_of.Goals as goal

pub loop-link-smaller-else-within : goal.loop-link-smaller-else-within
loop-link-smaller-else-within g c =
    let n : ℕ = vec_len c.loop-link.chain - 1 in
    let some : 0 < length c.deref.result.now = c.in-Some.ensures.item.3.0 in
    let fewer = length-take-le n c.loop-link.chain.items (omega (arith, c.loop-link.chain.ok.0)) in
    omega (arith, some, ap length c.deref.ensures.value, ap length c.pop.ensures.rest, fewer, c.loop-link.chain.ok.0)

pub loop-link-preserved-else-within : goal.loop-link-preserved-else-within
loop-link-preserved-else-within g c =
    subst (AreLinks c.args.rows.now {W = g.row.W}) (sym c.pop.ensures.rest)
    (All-take (IsLink c.args.rows.now {W = g.row.W}) (vec_len c.loop-link.chain - 1) c.loop-link.chain.items c.loop-link.invariant)

pub loop-link-smaller : goal.loop-link-smaller
loop-link-smaller g c =
    let n : ℕ = vec_len c.loop-link.chain - 1 in
    let some : 0 < length c.deref.result.now = c.in-Some.ensures.item.3.0 in
    let fewer = length-take-le n c.loop-link.chain.items (omega (arith, c.loop-link.chain.ok.0)) in
    omega (arith, some, ap length c.deref.ensures.value, ap length c.pop.ensures.rest, fewer, c.loop-link.chain.ok.0)

pub loop-link-preserved : goal.loop-link-preserved
loop-link-preserved g c =
    subst (AreLinks c.args.rows.now {W = g.row.W}) (sym c.pop.ensures.rest)
    (All-take (IsLink c.args.rows.now {W = g.row.W}) (vec_len c.loop-link.chain - 1) c.loop-link.chain.items c.loop-link.invariant)
