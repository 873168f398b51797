use Rattle.std.proofs.Common.{◌≡◌}
use Rattle.std.specs.Prelude.{All, vec_len}
use Rattle.explore_command.proofs.surveys.copies.Given as goal

abbrev pub invariant-loop : goal.invariant-loop
invariant-loop l = (vec_len l.tables ≡ l.counter) × All (λ copy. copy ≡ l.table) l.tables.items
