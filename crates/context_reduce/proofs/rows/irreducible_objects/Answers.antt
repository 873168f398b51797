use Rattle.std.proofs.Common.{◌≡◌, filter, not}
use Rattle.std.proofs.lemmas.Result.{IfOk-weaker}
use Rattle.context_reduce.specs.Reduce.{row_at, reducible, irreducible_objects}
use Rattle.context_reduce.proofs.ReduceLemmas.{objects_below, irreducible_objects_as}
use Rattle.context_reduce.proofs.rows.irreducible_objects.Goals as goal

pub irreducible_rows-requires : goal.irreducible_rows-requires
irreducible_rows-requires c = objects_below c.args.rows.now c.in_ok-places.places c.in_ok-places.ensures

pub returns : goal.returns
returns c =
    let K = c.args.rows.now in
    IfOk-weaker c.irreducible_rows.result (λ kept. kept ≡ filter (λ g. not (reducible K (row_at K g))) c.in_ok-places.places)
    (λ kept. kept ≡ irreducible_objects K)
    (λ kept e. irreducible_objects_as K c.in_ok-places.places kept c.in_ok-places.ensures e) c.irreducible_rows.ensures
