use Rattle.std.proofs.Common.{◌≡◌, ◌++◌, drop}
use Rattle.std.specs.List.{flat_map, enumerate_from}
use Rattle.report_texts.specs.Reports.{concept_line, concepts_text}
use Rattle.report_texts.proofs.concepts.write_concepts.Given as goal

abbrev pub invariant-loop-place : goal.invariant-loop-place
invariant-loop-place l = l.draft ++ flat_map (λ x. concept_line l.table x.0 x.1) (enumerate_from l.place (drop l.place l.concepts))
    ≡ l.fn.draft ++ concepts_text l.table l.concepts
