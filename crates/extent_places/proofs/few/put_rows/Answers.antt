use Rattle.std.proofs.Common.{◌≡◌, ◌∙◌, ◌<◌, ◌++◌, ◌∷◌, [], ℕ, List, length, take, get_or, refl, sym, ap, arith}
use Rattle.std.proofs.lemmas.List.{get_or_default, map_more}
use Rattle.fca_model.specs.Sets.{Set}
use Rattle.fca_model.specs.Context.{Context}
use Rattle.extent_places.specs.Places.{rows_at, row_at}
use Rattle.extent_places.proofs.PlaceLemmas.{all_placed}
use Rattle.extent_places.proofs.few.put_rows.Goals as goal

pub offset_bounds-all-place : goal.offset_bounds-all-place
offset_bounds-all-place g c =
    let here = all_placed c.args.rows.now c.args.rows.now c.args.a.now c.args.places.now refl c.requires c.loop-place.place-index 0
    c.loop-place-test.true in
    let all = ap length c.as_slice-all.ensures.rows in
    omega (arith, here, all)

pub bounds-all-place : goal.bounds-all-place
bounds-all-place g c =
    let here = all_placed c.args.rows.now c.args.rows.now c.args.a.now c.args.places.now refl c.requires c.loop-place.place-index 0
    c.loop-place-test.true in
    let all = ap length c.as_slice-all.ensures.rows in
    omega (arith, here, all)

pub push-requires : goal.push-requires
push-requires g c =
    let here = all_placed c.args.rows.now c.args.rows.now c.args.a.now c.args.places.now refl c.requires c.loop-place.place-index 0
    c.loop-place-test.true in
    let all = ap length c.as_slice-all.ensures.rows in
    let row : length c.index-all-place.result ≡ c.args.rows.now.width =
    ap length c.index-all-place.is ∙ c.as_slice-all.ensures.even
    (get_or c.args.places.now c.loop-place.place-index 0) c.index-all-place.result (omega (arith, here, all)) in
    (omega arith, (omega (arith, c.width.ensures.words), row ∙ sym (ap (λ (J : Context). J.width) c.loop-place.invariant)))

pub loop-place-preserved : goal.loop-place-preserved
loop-place-preserved g c =
    let K : Context = c.args.rows.now in
    let ps : List ℕ = c.args.places.now in
    let k = c.loop-place.place-index in
    let p : ℕ = get_or ps k 0 in
    let R : Set = c.index-all-place.result in
    let here : p < length K.rows = all_placed K K c.args.a.now ps refl c.requires k 0 c.loop-place-test.true in
    let value : R ≡ row_at K.rows p = c.index-all-place.is ∙ ap (λ (Rs : List Set). get_or Rs p R) c.as_slice-all.ensures.rows
    ∙ get_or_default K.rows p R [] here in
    c.in_ok-push.ensures.ok
    ∙ ap (λ (J : Context). record { width = J.width; rows = J.rows ++ R ∷ [] }) c.loop-place.invariant
    ∙ ap (λ (Rs : List Set). record { width = K.width; rows = Rs })
    (ap (λ (X : Set). rows_at K.rows (take k ps) ++ X ∷ []) value ∙ sym (map_more (row_at K.rows) ps k 0 c.loop-place-test.true))
