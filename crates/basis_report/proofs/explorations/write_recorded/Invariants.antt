use Rattle.std.proofs.Common.{◌≡◌, ◌++◌, drop}
use Rattle.std.specs.List.{flat_map}
use Rattle.basis_report.specs.Explorations.{recorded_line, recorded_section}
use Rattle.basis_report.proofs.explorations.write_recorded.Given as goal

abbrev pub invariant-loop-entry : goal.invariant-loop-entry
invariant-loop-entry l =
    l.draft ++ flat_map (λ entry. recorded_line entry.event entry.reply) (drop l.entry-index l.journal)
    ≡ l.fn.draft ++ recorded_section l.journal
