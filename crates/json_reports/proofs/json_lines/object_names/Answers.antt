use Rattle.std.proofs.Common.{map, ap, ◌∙◌}
use Rattle.serde_json.specs.Data.{string}
use Rattle.report_texts.specs.Reports.{names_at}
use Rattle.json_reports.proofs.JsonLemmas.{placed_more}
use Rattle.json_reports.proofs.json_lines.object_names.Goals as goal

pub loop-place-preserved : goal.loop-place-preserved
loop-place-preserved c =
    let names = c.args.table.now.objects in
    placed_more names c.args.places.now c.loop-place.place-index c.loop-place.names.items c.push.new.self.items c.in_ok-try_from_str.field-0
    (map (λ name. string name) (names_at names c.args.places.now)) c.loop-place-test.true c.in_ok-push.ensures.items
    (c.in_ok-try_from_str.ensures ∙ ap (λ name. string name) c.object_text.ensures) c.loop-place.invariant
