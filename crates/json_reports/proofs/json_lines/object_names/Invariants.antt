use Rattle.std.proofs.Common.{◌≡◌, ◌++◌, map, drop}
use Rattle.serde_json.specs.Data.{string}
use Rattle.serde_json.specs.View.{view}
use Rattle.report_texts.specs.Reports.{names_at}
use Rattle.json_reports.proofs.json_lines.object_names.Given as goal

abbrev pub invariant-loop-place : goal.invariant-loop-place
invariant-loop-place l =
    map view l.names.items ++ map (λ name. string name) (names_at l.table.objects (drop l.place-index l.places)) ≡ map (λ name. string name)
    (names_at l.table.objects l.places)
