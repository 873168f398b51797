use Rattle.std.proofs.Common.{◌≡◌, sym, ap, ◌∙◌, subst, get_or}
use Rattle.fca_model.specs.Sets.{Set}
use Rattle.fca_model.proofs.SetLemmas.{same-true}
use Rattle.lattice_covers.specs.Neighbours.{place_in}
use Rattle.lattice_covers.proofs.PlaceLemmas.{place_in-at}
use Rattle.lattice_covers.proofs.places.place_from.Goals as goal

pub returns-then-eq : goal.returns-then-eq
returns-then-eq g c =
    let Xs = c.args.sets.now in
    let X : Set = c.args.x.now in
    let there : get_or Xs c.place_near-near.result X ≡ X = subst (λ (Y : Set). get_or Xs c.place_near-near.result Y ≡ Y)
    (same-true c.index-sets-near.result X (sym c.eq.ensures ∙ c.if-eq.true)) (sym c.index-sets-near.is) in
    sym (place_in-at Xs c.requires c.place_near-near.result X c.if-near-sets.true) ∙ ap (place_in Xs) there
