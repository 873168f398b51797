use Rattle.std.proofs.Common.{map}
use Rattle.json_reports.specs.Json.{concept_data}
use Rattle.json_reports.proofs.JsonLemmas.{values_more}
use Rattle.json_reports.proofs.json_lines.concepts_value.Goals as goal

pub loop-concept-preserved : goal.loop-concept-preserved
loop-concept-preserved c =
    let datum = concept_data c.args.table.now in
    values_more datum c.args.concepts.now c.loop-concept.concept-index c.concept-item.result c.loop-concept.list.items c.push.new.self.items
    c.in_ok-concept_value.field-0
    (map datum c.args.concepts.now) c.loop-concept-test.true c.concept-item.is c.in_ok-push.ensures.items c.in_ok-concept_value.ensures
    c.loop-concept.invariant
