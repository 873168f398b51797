use Rattle.std.proofs.Common.{◌≡◌, ◌++◌, map, drop}
use Rattle.serde_json.specs.View.{view}
use Rattle.json_reports.specs.Json.{concept_data}
use Rattle.json_reports.proofs.json_lines.concepts_value.Given as goal

abbrev pub invariant-loop-concept : goal.invariant-loop-concept
invariant-loop-concept l = map view l.list.items ++ map (concept_data l.table) (drop l.concept-index l.concepts) ≡ map
    (concept_data l.table) l.concepts
