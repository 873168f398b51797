use Rattle.std.proofs.Common.{◌≡◌, fold, drop}
use Rattle.std.specs.BTreeMap.{insert_entry}
use Rattle.fca_model.specs.Sets.{lectic_cmp}
use Rattle.basis_report.specs.Explorations.{conclusions_by_premise}
use Rattle.basis_report.proofs.explorations.conclusions_by_premise.Given as goal

abbrev pub invariant-loop-implication : goal.invariant-loop-implication
invariant-loop-implication l =
    fold (λ entries i. insert_entry lectic_cmp entries i.premise i.conclusion) l.conclusions.entries (drop l.implication-index l.accepted)
    ≡ conclusions_by_premise l.accepted
