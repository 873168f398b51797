use Rattle.std.proofs.Common.{◌≡◌, ◌++◌, codes, drop}
use Rattle.std.specs.List.{flat_map}
use Rattle.expert_wire.specs.Texts.{line_end, full_text}
use Rattle.basis_report.specs.Explorations.{open_section}
use Rattle.basis_report.proofs.explorations.write_open.Given as goal

abbrev pub invariant-loop-question : goal.invariant-loop-question
invariant-loop-question l =
    l.draft ++ flat_map (λ i. (codes "# " ++ full_text l.table.attributes i) ++ line_end) (drop l.question-index l.questions)
    ≡ l.fn.draft ++ open_section l.table.attributes l.questions
