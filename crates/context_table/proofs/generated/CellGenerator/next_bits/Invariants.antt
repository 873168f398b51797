use Rattle.std.proofs.Common.{◌≡◌, ◌+◌}
use Rattle.attr_bits.specs.Words.{number_of}
use Rattle.context_table.specs.Generated.{draws_cross, state_after}
use Rattle.context_table.proofs.generated.CellGenerator.next_bits.Given as goal

abbrev pub invariant-loop-j : goal.invariant-loop-j
invariant-loop-j l = record {
  state : l.self.state ≡ state_after l.j l.initial.self.state;
  density : l.self.density ≡ l.initial.self.density;
  cells : l.bits ≡ number_of (λ k. draws_cross l.initial.self.density (state_after (k + 1) l.initial.self.state)) l.j;
}
