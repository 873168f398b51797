use Rattle.std.proofs.Common.{◌≡◌, ◌++◌, map, drop}
use Rattle.serde_json.specs.View.{view}
use Rattle.json_reports.specs.Json.{implication_data}
use Rattle.json_reports.proofs.json_lines.basis_value.Given as goal

abbrev pub invariant-loop-implication : goal.invariant-loop-implication
invariant-loop-implication l =
    map view l.list.items ++ map (implication_data l.table.attributes) (drop l.implication-index l.members) ≡ map
    (implication_data l.table.attributes) l.members
