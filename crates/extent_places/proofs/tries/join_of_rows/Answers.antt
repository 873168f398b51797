use Rattle.std.proofs.Common.{◌≡◌, ℕ, false, All, length, get_or, refl, ap, ◌∙◌, subst, arith}
use Rattle.std.proofs.lemmas.List.{take_all}
use Rattle.fca_model.specs.Context.{Context}
use Rattle.fca_model.proofs.SetLemmas.{length-join}
use Rattle.extent_places.specs.Places.{has_at}
use Rattle.extent_places.proofs.PlaceLemmas.{all_placed}
use Rattle.extent_places.proofs.TryLemmas.{joined_more}
use Rattle.extent_places.proofs.tries.join_of_rows.Goals as goal

pub offset_bounds-all-place : goal.offset_bounds-all-place
offset_bounds-all-place g c =
    let here = all_placed c.args.rows.now c.args.rows.now c.args.a.now c.args.places.now refl c.requires.places c.loop-place.place-index 0
    c.loop-place-test.true in
    let all = ap length c.as_slice-all.ensures.rows in
    omega (arith, here, all)

pub bounds-all-place : goal.bounds-all-place
bounds-all-place g c =
    let here = all_placed c.args.rows.now c.args.rows.now c.args.a.now c.args.places.now refl c.requires.places c.loop-place.place-index 0
    c.loop-place-test.true in
    let all = ap length c.as_slice-all.ensures.rows in
    omega (arith, here, all)

pub join-reached-requires : goal.join-reached-requires
join-reached-requires g c =
    let here = all_placed c.args.rows.now c.args.rows.now c.args.a.now c.args.places.now refl c.requires.places c.loop-place.place-index 0
    c.loop-place-test.true in
    let all = ap length c.as_slice-all.ensures.rows in
    let row : length c.index-all-place.result ≡ c.args.rows.now.width =
    ap length c.index-all-place.is ∙ c.as_slice-all.ensures.even
    (get_or c.args.places.now c.loop-place.place-index 0) c.index-all-place.result (omega (arith, here, all)) in
    (omega (arith, c.width.ensures.words), omega (arith, row, c.loop-place.invariant.wide))

pub loop-place-preserved : goal.loop-place-preserved
loop-place-preserved g c =
    let K : Context = c.args.rows.now in
    let here = all_placed K K c.args.a.now c.args.places.now refl c.requires.places c.loop-place.place-index 0 c.loop-place-test.true in
    let p : ℕ = get_or c.args.places.now c.loop-place.place-index 0 in
    record {
      wide = ap length c.join-reached.ensures ∙ length-join c.loop-place.reached c.index-all-place.result ∙ c.loop-place.invariant.wide;
      rest = joined_more K.rows c.loop-place.reached c.join-reached.result c.index-all-place.result K.width c.args.places.now
          c.loop-place.place-index c.loop-place-test.true here c.loop-place.invariant.wide
          (c.index-all-place.is ∙ ap (λ Rs. get_or Rs p c.index-all-place.result) c.as_slice-all.ensures.rows) c.join-reached.ensures
          c.loop-place.invariant.rest;
    }

pub returns-clause-rest : goal.returns-clause-rest
returns-clause-rest g c i below lacks =
    subst (All (λ p. has_at c.args.rows.now.rows i p ≡ false))
    (take_all c.loop-place.place-index c.args.places.now (omega (arith, c.loop-place-test.false)))
    (c.loop-place.invariant.rest i below lacks)
