use Rattle.std.proofs.Common.{◌≡◌, true, false, ◌∙◌, ◌<◌, List, [], length, get_or, set, sym, ap, subst, arith}
use Rattle.std.proofs.lemmas.List.{get_or_default}
use Rattle.fca_model.specs.Sets.{Set, full, size, within}
use Rattle.fca_model.specs.Context.{Context}
use Rattle.fca_model.proofs.SetLemmas.{same-true, within_refl}
use Rattle.extent_places.proofs.ObjectLemmas.{IsMet, met_none, met_more, met_enough, met_all, fewer_left}
use Rattle.extent_places.proofs.objects.meet_of.Goals as goal

pub loop-object-init : goal.loop-object-init
loop-object-init g c = met_none c.args.rows.now c.args.least.now c.args.objects.now c.full-met.result
    (c.full-met.ensures ∙ ap full c.width.ensures.width)

pub loop-object-preserved : goal.loop-object-preserved
loop-object-preserved g c =
    let K : Context = c.args.rows.now in
    let m = c.in-Some.object in
    let T : Set = c.loop-object.rest in
    let all : length c.as_slice-all.result.now ≡ length K.rows = ap length c.as_slice-all.ensures.rows in
    let inside : m < length K.rows = omega (arith, c.in-Some.ensures.in_range, c.loop-object.invariant.long, c.requires.objects.long) in
    let is : c.index-all-object.result ≡ get_or K.rows m [] =
    c.index-all-object.is ∙ ap (λ (Rs : List Set). get_or Rs m c.index-all-object.result) c.as_slice-all.ensures.rows
    ∙ get_or_default K.rows m c.index-all-object.result [] inside in
    subst (λ (X : Set). IsMet K c.args.least.now c.args.objects.now c.meet-met.result X) (sym c.without-rest.ensures)
    (subst (λ (M : Set). IsMet K c.args.least.now c.args.objects.now M (set T m false)) (sym c.meet-met.ensures)
    (met_more K c.args.least.now c.args.objects.now c.loop-object.met T m c.index-all-object.result c.requires.objects
    c.loop-object.invariant c.in-Some.ensures is))

pub loop-object-smaller : goal.loop-object-smaller
loop-object-smaller g c = subst (λ (X : Set). size X < size c.loop-object.rest) (sym c.without-rest.ensures)
    (fewer_left c.loop-object.rest c.in-Some.object c.in-Some.ensures)

pub returns-then-eq : goal.returns-then-eq
returns-then-eq g c =
    let K : Context = c.args.rows.now in
    let m = c.in-Some.object in
    let T : Set = c.loop-object.rest in
    let inside : m < length K.rows = omega (arith, c.in-Some.ensures.in_range, c.loop-object.invariant.long, c.requires.objects.long) in
    let is : c.index-all-object.result ≡ get_or K.rows m [] =
    c.index-all-object.is ∙ ap (λ (Rs : List Set). get_or Rs m c.index-all-object.result) c.as_slice-all.ensures.rows
    ∙ get_or_default K.rows m c.index-all-object.result [] inside in
    met_enough K c.args.least.now c.args.objects.now c.meet-met.result (set T m false) c.requires.wide
    (subst (λ (M : Set). IsMet K c.args.least.now c.args.objects.now M (set T m false)) (sym c.meet-met.ensures)
    (met_more K c.args.least.now c.args.objects.now c.loop-object.met T m c.index-all-object.result c.requires.objects
    c.loop-object.invariant c.in-Some.ensures is))
    (subst (λ (A : Set). within c.meet-met.result A ≡ true) (same-true c.meet-met.result c.args.least.now (sym c.eq.ensures ∙ c.if-eq.true))
    (within_refl c.meet-met.result))

pub returns : goal.returns
returns g c = met_all c.args.rows.now c.args.least.now c.args.objects.now c.loop-object.met c.loop-object.rest c.requires.objects
    c.loop-object.invariant c.in_default.ensures
