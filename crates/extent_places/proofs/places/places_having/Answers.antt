use Rattle.std.proofs.Common.{◌≡◌, ◌∙◌, ◌<◌, ℕ, List, All, length, get_or, sym, subst, arith}
use Rattle.fca_model.specs.Context.{Context, extent}
use Rattle.extent_places.proofs.PlaceLemmas.{extent_inside}
use Rattle.extent_places.proofs.places.places_having.Goals as goal

pub overflow_cast-place : goal.overflow_cast-place
overflow_cast-place g c =
    let K : Context = c.args.rows.now in
    let is : c.as_slice-all.result.now ≡ extent K c.args.set.now = c.as_slice-all.ensures ∙ c.in_ok-extent.ensures in
    let here : get_or c.as_slice-all.result.now c.loop-place.place-index 0 < length K.rows =
    subst (λ (ps : List ℕ). All (λ p. p < length K.rows) ps) (sym is)
    (extent_inside K c.args.set.now) c.loop-place.place-index 0 c.loop-place-test.true in
    omega (arith, here, c.requires)
