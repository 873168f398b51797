use Rattle.std.proofs.Common.{map}
use Rattle.json_reports.specs.Json.{implication_data}
use Rattle.json_reports.proofs.JsonLemmas.{values_more}
use Rattle.json_reports.proofs.json_lines.basis_value.Goals as goal

pub loop-implication-preserved : goal.loop-implication-preserved
loop-implication-preserved c =
    let datum = implication_data c.args.table.now.attributes in
    values_more datum c.args.members.now c.loop-implication.implication-index c.implication-item.result c.loop-implication.list.items
    c.push.new.self.items c.in_ok-implication_value.field-0
    (map datum c.args.members.now) c.loop-implication-test.true c.implication-item.is c.in_ok-push.ensures.items
    c.in_ok-implication_value.ensures c.loop-implication.invariant
