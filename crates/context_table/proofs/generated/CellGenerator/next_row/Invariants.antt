use Rattle.std.proofs.Common.{◌≡◌, ◌+◌, ◌*◌, min}
use Rattle.context_table.specs.Generated.{draws_cross, state_after}
use Rattle.context_table.proofs.CellLemmas.{HasCells}
use Rattle.context_table.proofs.generated.CellGenerator.next_row.Given as goal

abbrev pub invariant-loop-block : goal.invariant-loop-block
invariant-loop-block l = record {
  state : l.self.state ≡ state_after (min (64 * l.block) l.n) l.initial.self.state;
  density : l.self.density ≡ l.initial.self.density;
  cells : HasCells (λ k. draws_cross l.initial.self.density (state_after (k + 1) l.initial.self.state)) l.n (min (64 * l.block) l.n) l.row;
}
