use Rattle.std.proofs.Common.{◌≡◌, ◌++◌, drop}
use Rattle.std.specs.List.{flat_map}
use Rattle.basis_report.specs.Verdicts.{step_line, derivation_text}
use Rattle.basis_report.proofs.verdicts.write_derivation.Given as goal

abbrev pub invariant-loop-step : goal.invariant-loop-step
invariant-loop-step l = l.draft ++ flat_map (step_line l.table.attributes l.members) (drop l.step-index l.steps)
    ≡ l.fn.draft ++ derivation_text l.table.attributes l.members l.steps
