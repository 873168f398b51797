use Rattle.std.proofs.Common.{drop}
use Rattle.basis_report.specs.Explorations.{EachNamed}
use Rattle.basis_report.proofs.names.look_at_rows.Given as goal

abbrev pub invariant-loop-entry : goal.invariant-loop-entry
invariant-loop-entry l = EachNamed (drop l.entry-index l.journal) → EachNamed l.journal
