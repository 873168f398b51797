use Rattle.std.proofs.Common.{◌≡◌, true, sym, ap₂, subst}
use Rattle.fca_model.specs.Implications.{rule, holds}
use Rattle.oracle_expert.proofs.HoldLemmas.{no_counterexample}
use Rattle.oracle_expert.proofs.oracle.counterexample_on.Goals as goal

pub returns-then-is_seen_to_hold : goal.returns-then-is_seen_to_hold
returns-then-is_seen_to_hold g c =
    let q = c.args.question.now in
    sym (no_counterexample c.args.indexed.now q c.args.conflicts.now c.requires.1
    (subst (λ i. holds c.args.indexed.now i ≡ true) (ap₂ rule c.resize-premise.ensures c.resize-conclusion.ensures)
    (c.is_seen_to_hold.ensures c.if-is_seen_to_hold.true)))
