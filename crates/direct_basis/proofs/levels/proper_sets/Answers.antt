use Rattle.std.proofs.Common.{◌≡◌, ◌∙◌, rules}
use Rattle.direct_basis.proofs.LevelLemmas.{found_is}
use Rattle.direct_basis.proofs.levels.proper_sets.Goals as goal
use Rattle.fca_model.proofs.SortedLemmas.{increasing_keys}

pub returns : goal.returns
returns c =
    let Xs = c.in_ok-found.found.keys in
    let items : c.in_ok-collect.field-0.items ≡ Xs = search rules in
    items ∙ found_is c.args.rows.now Xs (increasing_keys Xs c.len-count.ensures.ordered) c.in_ok-found.ensures
