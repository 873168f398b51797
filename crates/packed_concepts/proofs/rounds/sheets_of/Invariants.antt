use Rattle.std.proofs.Common.{◌≡◌, length}
use Rattle.packed_concepts.proofs.rounds.sheets_of.Given as goal

abbrev pub invariant-loop : goal.invariant-loop
invariant-loop l = length l.sheets.items ≡ l.counter
