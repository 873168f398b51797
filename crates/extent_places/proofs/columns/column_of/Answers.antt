use Rattle.std.proofs.Common.{◌≡◌, ◌<◌, ◌∙◌, Bool, List, [], false, length, get_or, ext_get_or, sym, ap, arith}
use Rattle.std.proofs.lemmas.List.{length-map, get_or-map}
use Rattle.fca_model.specs.Sets.{Set}
use Rattle.extent_places.specs.Places.{column}
use Rattle.extent_places.proofs.columns.column_of.Goals as goal

pub returns : goal.returns
returns g c =
    let Rs : List Set = c.args.rows.now.rows in
    let f : Set → Bool = λ R. get_or R c.args.attribute false in
    let all : length c.as_slice-all.result.now ≡ length Rs = ap length c.as_slice-all.ensures.rows in
    ext_get_or false c.loop-place.having.items (column Rs c.args.attribute)
    (c.loop-place.invariant.room ∙ sym (length-map Rs f))
    (λ k l. let inside : k < length Rs = omega (arith, l, c.loop-place.invariant.room) in
    c.loop-place.invariant.have k (omega (arith, inside, all, c.loop-place-test.false))
    ∙ sym (get_or-map f Rs k [] false inside))
