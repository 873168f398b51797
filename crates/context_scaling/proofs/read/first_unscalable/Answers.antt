use Rattle.std.proofs.Common.{◌≡◌, ◌∙◌, ◌<◌, true, false, length, sym, ap, arith}
use Rattle.context_scaling.specs.Scaling.{is_scalable}
use Rattle.value_tables.specs.Values.{object_at, value_at}
use Rattle.context_scaling.proofs.ReadLemmas.{position_here, position_more}
use Rattle.context_scaling.proofs.read.first_unscalable.Goals as goal

pub returns-then-not-is_scalable : goal.returns-then-not-is_scalable
returns-then-not-is_scalable c =
    let t = c.args.values.now in
    let g = c.loop-g.g in
    let below : g < length t.objects = omega (arith, c.loop-g-test.true, c.len-g-end.ensures.len) in
    let bad : is_scalable c.args.kind (value_at c.args.m (object_at t g)) ≡ false = ap (is_scalable c.args.kind) (sym c.value.ensures)
    ∙ sym c.is_scalable.ensures ∙ c.if-not-is_scalable.true in
    sym (position_here c.args.kind t.objects c.args.m g below bad) ∙ c.loop-g.invariant

pub loop-g-preserved : goal.loop-g-preserved
loop-g-preserved c =
    let t = c.args.values.now in
    let g = c.loop-g.g in
    let below : g < length t.objects = omega (arith, c.loop-g-test.true, c.len-g-end.ensures.len) in
    let good : is_scalable c.args.kind (value_at c.args.m (object_at t g)) ≡ true = ap (is_scalable c.args.kind) (sym c.value.ensures)
    ∙ sym c.is_scalable.ensures ∙ c.if-not-is_scalable.false in
    sym (position_more c.args.kind t.objects c.args.m g below good) ∙ c.loop-g.invariant
