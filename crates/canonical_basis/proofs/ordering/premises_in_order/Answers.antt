use Rattle.std.proofs.Common.{◌≡◌, ◌∙◌, ap, rules}
use Rattle.std.specs.List.{list_any}
use Rattle.fca_model.specs.Sets.{increasing, same}
use Rattle.fca_model.proofs.SortedLemmas.{increasing_keys}
use Rattle.canonical_basis.proofs.ordering.premises_in_order.Goals as goal

pub returns-clause-ordered : goal.returns-clause-ordered
returns-clause-ordered c =
    let Xs = c.in_ok-gathered.gathered.keys in
    let items : c.in_ok-collect.field-0.items ≡ Xs = search rules in
    ap increasing items ∙ increasing_keys Xs c.len-count.ensures.ordered

pub returns-clause-members : goal.returns-clause-members
returns-clause-members c =
    let Xs = c.in_ok-gathered.gathered.keys in
    let items : c.in_ok-collect.field-0.items ≡ Xs = search rules in
    λ A. ap (list_any (same A)) items ∙ c.in_ok-gathered.ensures A
