use Rattle.std.proofs.Common.{All}
use Rattle.table_texts.specs.Teams.{IsDone}
use Rattle.table_texts.proofs.teams.take_jobs.Given as goal

abbrev pub invariant-loop : goal.invariant-loop
invariant-loop g l = All (IsDone l.crosses l.jobs) l.done.items
