use Rattle.std.proofs.Common.{◌∙◌, ap}
use Rattle.context_reduce.specs.Reduce.{irreducible_objects, irreducible_attributes}
use Rattle.context_reduce.proofs.TableLemmas.{irreducible_places}
use Rattle.context_reduce.proofs.RangeLemmas.{all_wide}
use Rattle.context_reduce.proofs.ReduceLemmas.{reduced_as}
use Rattle.context_reduce.proofs.irreducible.Goals as goal

pub returns-clause-objects : goal.returns-clause-objects
returns-clause-objects c = c.in_ok-irreducible_objects.ensures ∙ ap irreducible_objects c.rows-rows.ensures.rows

pub returns-clause-attributes : goal.returns-clause-attributes
returns-clause-attributes c = c.in_ok-irreducible_attributes.ensures ∙ ap irreducible_attributes c.rows-rows.ensures.rows

pub returns-clause-places : goal.returns-clause-places
returns-clause-places c = irreducible_places c.args.table.now c.in_ok-irreducible_objects.field-0 c.in_ok-irreducible_attributes.field-0
    (returns-clause-objects c) (returns-clause-attributes c)

pub returns-clause-intents : goal.returns-clause-intents
returns-clause-intents c =
    let K = c.args.table.now.context in
    reduced_as K c.in_ok-irreducible_objects.field-0 c.in_ok-irreducible_attributes.field-0 (returns-clause-objects c)
    (returns-clause-attributes c) (all_wide K.width K.rows c.rows-rows.ensures.table.even)
