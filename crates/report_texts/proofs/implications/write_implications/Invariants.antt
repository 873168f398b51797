use Rattle.std.proofs.Common.{◌≡◌, ◌++◌, drop}
use Rattle.std.specs.List.{flat_map, enumerate_from}
use Rattle.report_texts.specs.Reports.{implication_line, implication_lines}
use Rattle.report_texts.proofs.implications.write_implications.Given as goal

abbrev pub invariant-loop-place : goal.invariant-loop-place
invariant-loop-place l =
    l.draft ++ flat_map (λ x. implication_line l.words l.table.attributes x.0 x.1) (enumerate_from l.place (drop l.place l.list))
    ≡ l.fn.draft ++ implication_lines l.words l.table.attributes l.list
