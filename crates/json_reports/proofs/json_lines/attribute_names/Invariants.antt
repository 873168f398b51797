use Rattle.std.proofs.Common.{◌≡◌, ◌++◌, map}
use Rattle.serde_json.specs.Data.{string}
use Rattle.serde_json.specs.View.{view}
use Rattle.expert_wire.specs.Texts.{names_of}
use Rattle.expert_wire.proofs.ListedLemmas.{names_from}
use Rattle.json_reports.proofs.json_lines.attribute_names.Given as goal

abbrev pub invariant-loop-attribute : goal.invariant-loop-attribute
invariant-loop-attribute l =
    map view l.names.items ++ map (λ name. string name) (names_from l.attribute l.table.attributes l.set) ≡ map (λ name. string name)
    (names_of l.table.attributes l.set)
