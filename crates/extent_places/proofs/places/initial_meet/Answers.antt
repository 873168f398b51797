use Rattle.std.proofs.Common.{◌≡◌, ◌<◌, ◌-◌, ◌∙◌, ℕ, All, List, [], length, get_or, sym, ap, ap₂, subst, arith}
use Rattle.std.specs.Prelude.{fold}
use Rattle.std.proofs.lemmas.List.{get_or_default}
use Rattle.fca_model.specs.Sets.{Set, meet, full}
use Rattle.fca_model.specs.Context.{Context, closure, extent}
use Rattle.extent_places.specs.Places.{row_at, rows_at}
use Rattle.extent_places.proofs.PlaceLemmas.{extent_inside, rows_at-extent, met_from_row}
use Rattle.extent_places.proofs.places.initial_meet.Goals as goal

-- a place of an extent is that of a row
placed : (K : Context) (A : Set) (places : List ℕ) (k p : ℕ) → places ≡ extent K A → k < length places → p ≡ get_or places k p
    → p < length K.rows
placed K A places k p is inside at = subst (λ q. q < length K.rows) (sym (at ∙ get_or_default places k p 0 inside))
    (subst (All (λ q. q < length K.rows)) (sym is) (extent_inside K A) k 0 inside)

pub offset_bounds-as_slice-place : goal.offset_bounds-as_slice-place
offset_bounds-as_slice-place g c =
    let here = placed c.args.rows.now c.args.least.now c.args.places.now (length c.args.places.now - 1) c.in-Some.place.now c.requires
    (omega (arith, c.in-Some.ensures.item.3.0)) c.in-Some.ensures.item.1 in
    omega (arith, here, ap length c.as_slice.ensures.rows)

pub bounds-as_slice-place : goal.bounds-as_slice-place
bounds-as_slice-place g c =
    let here = placed c.args.rows.now c.args.least.now c.args.places.now (length c.args.places.now - 1) c.in-Some.place.now c.requires
    (omega (arith, c.in-Some.ensures.item.3.0)) c.in-Some.ensures.item.1 in
    omega (arith, here, ap length c.as_slice.ensures.rows)

-- the meet begins with all attributes
from_full : (K : Context) (A M : Set) (places : List ℕ) (n : ℕ) → places ≡ extent K A → M ≡ full n → n ≡ K.width
    → fold meet M (rows_at K.rows places) ≡ closure K A
from_full K A M places n is m e = ap₂ (λ (X : Set) (Rs : List Set). fold meet X Rs) (m ∙ ap full e)
    (ap (rows_at K.rows) is ∙ rows_at-extent K A)

pub returns-then-places-le-FEW_ROWS : goal.returns-then-places-le-FEW_ROWS
returns-then-places-le-FEW_ROWS g c = from_full c.args.rows.now c.args.least.now c.full.result c.args.places.now c.width.result
    c.requires c.full.ensures c.width.ensures.width

pub returns-in-None : goal.returns-in-None
returns-in-None g c = from_full c.args.rows.now c.args.least.now c.full-in-None.result c.args.places.now c.width-in-None.result
    c.requires c.full-in-None.ensures c.width-in-None.ensures.width

pub returns-in-Some : goal.returns-in-Some
returns-in-Some g c =
    let K : Context = c.args.rows.now in
    let places : List ℕ = c.args.places.now in
    let k : ℕ = length places - 1 in
    let p : ℕ = c.in-Some.place.now in
    let R : Set = c.index-as_slice-place.result in
    let inside : k < length places = omega (arith, c.in-Some.ensures.item.3.0) in
    let here : p < length K.rows = placed K c.args.least.now places k p c.requires inside c.in-Some.ensures.item.1 in
    let is : R ≡ get_or K.rows p R = c.index-as_slice-place.is ∙ ap (λ (Rs : List Set). get_or Rs p R) c.as_slice.ensures.rows in
    let row : R ≡ row_at K.rows (get_or places k 0) =
    is ∙ get_or_default K.rows p R [] here
    ∙ ap (row_at K.rows) (c.in-Some.ensures.item.1 ∙ get_or_default places k p 0 inside) in
    met_from_row K c.args.least.now places k R c.requires inside row
    (ap length c.index-as_slice-place.is ∙ c.as_slice.ensures.even p R (omega (arith, here, ap length c.as_slice.ensures.rows)))
