use Rattle.std.proofs.Common.{◌++◌, ap, ◌∙◌}
use Rattle.serde_json.specs.Written.{compact_text, has_float}
use Rattle.expert_wire.specs.Texts.{line_end}
use Rattle.json_reports.specs.Json.{basis_data, basis_json}
use Rattle.json_reports.proofs.JsonLemmas.{no_float-basis}
use Rattle.json_reports.proofs.json_lines.basis_json.Goals as goal

pub line_of-requires : goal.line_of-requires
line_of-requires c = ap has_float c.in_ok-value.ensures ∙ no_float-basis c.args.table.now.attributes c.as_slice.result.now

pub returns : goal.returns
unfolding basis_json
returns c = c.in_ok-line_of.ensures ∙ ap (λ d. compact_text d ++ line_end)
    (c.in_ok-value.ensures ∙ ap (basis_data c.args.table.now.attributes) c.as_slice.ensures.members)
