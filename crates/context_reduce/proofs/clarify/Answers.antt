use Rattle.std.proofs.Common.{◌∙◌, ap}
use Rattle.context_reduce.specs.Reduce.{distinct_objects, distinct_attributes}
use Rattle.context_reduce.proofs.TableLemmas.{distinct_places}
use Rattle.context_reduce.proofs.RangeLemmas.{all_wide}
use Rattle.context_reduce.proofs.ReduceLemmas.{clarified_as}
use Rattle.context_reduce.proofs.clarify.Goals as goal

pub returns-clause-places : goal.returns-clause-places
returns-clause-places c =
    let same_rows = c.rows-rows.ensures.rows in
    distinct_places c.args.table.now c.in_ok-distinct_objects.field-0 c.in_ok-distinct_attributes.field-0
    (c.in_ok-distinct_objects.ensures ∙ ap distinct_objects same_rows) (c.in_ok-distinct_attributes.ensures ∙ ap distinct_attributes same_rows)

pub returns-clause-intents : goal.returns-clause-intents
returns-clause-intents c =
    let K = c.args.table.now.context in
    let same_rows = c.rows-rows.ensures.rows in
    clarified_as K c.in_ok-distinct_objects.field-0 c.in_ok-distinct_attributes.field-0
    (c.in_ok-distinct_objects.ensures ∙ ap distinct_objects same_rows) (c.in_ok-distinct_attributes.ensures ∙ ap distinct_attributes same_rows)
    (all_wide K.width K.rows c.rows-rows.ensures.table.even)
