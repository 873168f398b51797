use Rattle.std.proofs.Common.{◌≡◌, [], All}
use Rattle.table_texts.proofs.teams.team_of.Given as goal

abbrev pub invariant-loop : goal.invariant-loop
invariant-loop g l = All (λ done. done.items ≡ []) l.team.items
