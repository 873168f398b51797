use Rattle.std.proofs.Common.{◌≡◌, ◌++◌, map}
use Rattle.fca_model.specs.Implications.{rule}
use Rattle.basis_report.specs.Explorations.{in_lectic_order}
use Rattle.basis_report.proofs.explorations.in_lectic_order.Given as goal

abbrev pub invariant-loop-premise : goal.invariant-loop-premise
invariant-loop-premise l = l.ordered.items ++ map (λ entry. rule entry.0 entry.1) l.premise-iterator ≡ in_lectic_order l.accepted
