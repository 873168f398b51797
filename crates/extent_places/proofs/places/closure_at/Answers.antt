use Rattle.std.proofs.Common.{◌≡◌, ◌<◌, ◌+◌, ℕ, true, All, List, length, get_or, sym, ap, ◌∙◌, subst, arith}
use Rattle.fca_model.specs.Sets.{Set, within}
use Rattle.fca_model.specs.Context.{Context, closure, extent}
use Rattle.fca_model.proofs.SetLemmas.{same-true, within_refl}
use Rattle.extent_places.proofs.PlaceLemmas.{extent_inside, met_more, met_enough}
use Rattle.extent_places.proofs.places.closure_at.Goals as goal

pub loop-place-init : goal.loop-place-init
loop-place-init g c = c.initial_meet-met.ensures

-- a place of an extent is that of a row
placed : (K : Context) (A : Set) (places : List ℕ) (k : ℕ) → places ≡ extent K A → k < length places → get_or places k 0 < length K.rows
placed K A places k is inside = subst (All (λ p. p < length K.rows)) (sym is) (extent_inside K A) k 0 inside

pub offset_bounds-all-place : goal.offset_bounds-all-place
offset_bounds-all-place g c =
    let here : get_or c.args.places.now c.loop-place.place-index 0 < length c.args.rows.now.rows =
    placed c.args.rows.now c.args.least.now c.args.places.now c.loop-place.place-index c.requires c.loop-place-test.true in
    let all : length c.as_slice-all.result.now ≡ length c.args.rows.now.rows = ap length c.as_slice-all.ensures.rows in
    omega arith

pub bounds-all-place : goal.bounds-all-place
bounds-all-place g c =
    let here : get_or c.args.places.now c.loop-place.place-index 0 < length c.args.rows.now.rows =
    placed c.args.rows.now c.args.least.now c.args.places.now c.loop-place.place-index c.requires c.loop-place-test.true in
    let all : length c.as_slice-all.result.now ≡ length c.args.rows.now.rows = ap length c.as_slice-all.ensures.rows in
    omega arith

pub returns-then-eq : goal.returns-then-eq
returns-then-eq g c =
    let K : Context = c.args.rows.now in
    let p : ℕ = get_or c.args.places.now c.loop-place.place-index 0 in
    let here : p < length K.rows = placed K c.args.least.now c.args.places.now c.loop-place.place-index c.requires c.loop-place-test.true in
    let row : c.index-all-place.result ≡ get_or K.rows p c.index-all-place.result = c.index-all-place.is
    ∙ ap (λ (Rs : List Set). get_or Rs p c.index-all-place.result) c.as_slice-all.ensures.rows in
    met_enough K c.args.least.now c.args.places.now (c.loop-place.place-index + 1) c.meet-met.result (closure K c.args.least.now) c.requires
    (subst (λ (A : Set). within c.meet-met.result A ≡ true)
    (same-true c.meet-met.result c.args.least.now (sym c.eq.ensures ∙ c.if-eq.true)) (within_refl c.meet-met.result))
    (met_more K.rows c.args.places.now c.loop-place.place-index c.loop-place.met c.meet-met.result c.index-all-place.result
    (closure K c.args.least.now) c.loop-place-test.true here row c.meet-met.ensures c.loop-place.invariant)

pub loop-place-preserved : goal.loop-place-preserved
loop-place-preserved g c =
    let K : Context = c.args.rows.now in
    let p : ℕ = get_or c.args.places.now c.loop-place.place-index 0 in
    let here : p < length K.rows = placed K c.args.least.now c.args.places.now c.loop-place.place-index c.requires c.loop-place-test.true in
    let row : c.index-all-place.result ≡ get_or K.rows p c.index-all-place.result = c.index-all-place.is
    ∙ ap (λ (Rs : List Set). get_or Rs p c.index-all-place.result) c.as_slice-all.ensures.rows in
    met_more K.rows c.args.places.now c.loop-place.place-index c.loop-place.met c.meet-met.result c.index-all-place.result
    (closure K c.args.least.now) c.loop-place-test.true here row c.meet-met.ensures c.loop-place.invariant
