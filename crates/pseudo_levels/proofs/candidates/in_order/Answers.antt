use Rattle.std.proofs.Common.{◌≡◌, ◌∙◌, ap, rules}
use Rattle.fca_model.specs.Sets.{increasing}
use Rattle.fca_model.proofs.SortedLemmas.{increasing_keys}
use Rattle.pseudo_levels.proofs.candidates.in_order.Goals as goal

pub returns-clause-ordered : goal.returns-clause-ordered
returns-clause-ordered c =
    let Xs = c.args.sets.now.keys in
    let items : c.in_ok-collect.field-0.items ≡ Xs = search rules in
    ap increasing items ∙ increasing_keys Xs c.len-count.ensures.ordered
