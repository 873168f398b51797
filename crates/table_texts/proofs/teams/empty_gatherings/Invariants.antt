use Rattle.std.proofs.Common.{◌≡◌, false, All, length}
use Rattle.table_texts.proofs.teams.empty_gatherings.Given as goal

abbrev pub invariant-loop : goal.invariant-loop
invariant-loop g l = record {
  even : length l.gatherings.items ≡ l.counter;
  missing : All (λ gathering. gathering.whole ≡ false) l.gatherings.items;
}
