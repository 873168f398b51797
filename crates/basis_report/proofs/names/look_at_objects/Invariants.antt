use Rattle.std.proofs.Common.{◌≡◌, drop}
use Rattle.std.specs.List.{list_all}
use Rattle.expert_wire.specs.Patterns.{is_name}
use Rattle.basis_report.proofs.names.look_at_objects.Given as goal

abbrev pub invariant-loop-object : goal.invariant-loop-object
invariant-loop-object l = list_all is_name (drop l.object l.table.objects) ≡ list_all is_name l.table.objects
