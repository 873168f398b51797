use Rattle.std.proofs.Common.{◌<◌, ◌-◌, ℕ, length, vec_len, sym, ap, subst, arith}
use Rattle.std.proofs.lemmas.List.{length-take-le}
use Rattle.std.proofs.lemmas.List.Elements.{All-take}
use Rattle.lectic_concepts.specs.Concepts.{IsConcept, AreConcepts}
use Rattle.lectic_concepts.proofs.extents.find_concept.Goals as goal

pub loop-last-smaller-else-within : goal.loop-last-smaller-else-within
loop-last-smaller-else-within g c =
    let n : ℕ = vec_len c.loop-last.chain - 1 in
    let some : 0 < length c.deref.result.now = c.in-Some.ensures.item.3.0 in
    let fewer = length-take-le n c.loop-last.chain.items (omega (arith, c.loop-last.chain.ok.0)) in
    omega (arith, some, ap length c.deref.ensures.value, ap length c.pop.ensures.rest, fewer, c.loop-last.chain.ok.0)

pub loop-last-preserved-else-within : goal.loop-last-preserved-else-within
loop-last-preserved-else-within g c =
    subst (AreConcepts c.args.rows.now {W = g.row.W}) (sym c.pop.ensures.rest)
    (All-take (IsConcept c.args.rows.now {W = g.row.W}) (vec_len c.loop-last.chain - 1) c.loop-last.chain.items c.loop-last.invariant)

pub loop-last-smaller : goal.loop-last-smaller
loop-last-smaller g c =
    let n : ℕ = vec_len c.loop-last.chain - 1 in
    let some : 0 < length c.deref.result.now = c.in-Some.ensures.item.3.0 in
    let fewer = length-take-le n c.loop-last.chain.items (omega (arith, c.loop-last.chain.ok.0)) in
    omega (arith, some, ap length c.deref.ensures.value, ap length c.pop.ensures.rest, fewer, c.loop-last.chain.ok.0)

pub loop-last-preserved : goal.loop-last-preserved
loop-last-preserved g c =
    subst (AreConcepts c.args.rows.now {W = g.row.W}) (sym c.pop.ensures.rest)
    (All-take (IsConcept c.args.rows.now {W = g.row.W}) (vec_len c.loop-last.chain - 1) c.loop-last.chain.items c.loop-last.invariant)
