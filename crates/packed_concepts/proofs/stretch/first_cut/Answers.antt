use Rattle.std.proofs.Common.{◌≡◌, ◌+◌, take, ap, arith}
use Rattle.packed_concepts.specs.Packing.{total}
use Rattle.packed_concepts.proofs.PackingLemmas.{total-next, total-take}
use Rattle.packed_concepts.proofs.stretch.first_cut.Goals as goal

pub overflow_add-cut-in-loop-one : goal.overflow_add-cut-in-loop-one
overflow_add-cut-in-loop-one g c =
    let next = total-next c.args.packed.now c.loop-one.one-index c.one-item.result c.loop-one-test.true c.one-item.is in
    let most = total-take c.args.packed.now (c.loop-one.one-index + 1) in
    omega (arith, next, most, c.loop-one.invariant.objects, c.requires.fits)

pub returns-then-cut-gt-SHARE-clause-objects : goal.returns-then-cut-gt-SHARE-clause-objects
returns-then-cut-gt-SHARE-clause-objects g c =
    let next = total-next c.args.packed.now c.loop-one.one-index c.one-item.result c.loop-one-test.true c.one-item.is in
    let at : total (take (c.loop-one.cut.concepts + 1) c.args.packed.now) ≡ total (take (c.loop-one.one-index + 1) c.args.packed.now) =
    ap (λ k. total (take (k + 1) c.args.packed.now)) c.loop-one.invariant.concepts in
    omega (arith, next, at, c.loop-one.invariant.objects)

pub loop-one-preserved : goal.loop-one-preserved
loop-one-preserved g c =
    let next = total-next c.args.packed.now c.loop-one.one-index c.one-item.result c.loop-one-test.true c.one-item.is in
    record {
      concepts = omega (arith, c.loop-one.invariant.concepts);
      objects = omega (arith, next, c.loop-one.invariant.objects);
    }
