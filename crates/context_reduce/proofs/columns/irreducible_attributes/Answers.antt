use Rattle.std.proofs.Common.{◌≡◌, filter, not}
use Rattle.std.proofs.lemmas.Result.{IfOk-weaker}
use Rattle.context_reduce.specs.Reduce.{column, transpose, reducible, irreducible_attributes}
use Rattle.context_reduce.proofs.ReduceLemmas.{attributes_below, irreducible_attributes_as}
use Rattle.context_reduce.proofs.columns.irreducible_attributes.Goals as goal

pub irreducible_columns-requires-clause-places : goal.irreducible_columns-requires-clause-places
irreducible_columns-requires-clause-places c = attributes_below c.args.rows.now c.in_ok-places.places c.in_ok-places.ensures

pub returns : goal.returns
returns c =
    let K = c.args.rows.now in
    IfOk-weaker c.irreducible_columns.result (λ kept. kept ≡ filter (λ m. not (reducible (transpose K) (column K m))) c.in_ok-places.places)
    (λ kept. kept ≡ irreducible_attributes K)
    (λ kept e. irreducible_attributes_as K c.in_ok-places.places kept c.in_ok-places.ensures e) c.irreducible_columns.ensures
