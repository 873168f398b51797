use Rattle.std.proofs.Common.{◌≡◌, drop}
use Rattle.std.specs.List.{list_all}
use Rattle.expert_wire.specs.Patterns.{is_name}
use Rattle.basis_report.proofs.names.look_at_oracles.Given as goal

abbrev pub invariant-loop-oracle : goal.invariant-loop-oracle
invariant-loop-oracle l = list_all (λ o. list_all is_name o.table.objects) (drop l.oracle-index l.oracles) ≡ list_all
    (λ o. list_all is_name o.table.objects) l.oracles
