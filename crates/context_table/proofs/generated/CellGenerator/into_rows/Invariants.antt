use Rattle.std.proofs.Common.{◌≡◌, ◌*◌}
use Rattle.context_table.specs.Generated.{rows_from, state_after}
use Rattle.context_table.proofs.generated.CellGenerator.into_rows.Given as goal

abbrev pub invariant-loop : goal.invariant-loop
invariant-loop l = record {
  state : l.self.state ≡ state_after (l.counter * l.n) l.initial.self.state;
  density : l.self.density ≡ l.initial.self.density;
  rows : l.rows ≡ record { width = l.n; rows = rows_from l.initial.self.density l.counter l.n l.initial.self.state };
}
