use Rattle.std.proofs.Common.{None, refl}
use Rattle.oracle_expert.specs.Oracles.{no_conflict}
use Rattle.oracle_expert.proofs.RunLemmas.{oracle_runs}
use Rattle.oracle_expert.proofs.laws.oracle_at_a_seat.Goals as goal

pub returns : goal.returns
returns c = record {
  front = λ e old new entries free run. (oracle_runs old.table e None (no_conflict old.table) old entries new refl free run).run;
  run = λ e old new entries free run done. ((oracle_runs old.table e None (no_conflict old.table) old entries new refl free run).run, done);
  table = λ e old new entries free run. (oracle_runs old.table e None (no_conflict old.table) old entries new refl free run).table;
  conflicts = λ e old new entries free run. (oracle_runs old.table e None (no_conflict old.table) old entries new refl free run).conflicts;
}
