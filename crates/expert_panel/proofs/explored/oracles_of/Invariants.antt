use Rattle.std.proofs.Common.{◌≡◌, ◌++◌, All, map}
use Rattle.std.specs.Vec.Iter.{into_iter_items}
use Rattle.oracle_expert.specs.Oracles.{untold}
use Rattle.expert_panel.specs.Explorations.{HasFewRows, HasEvenRows}
use Rattle.expert_panel.proofs.explored.oracles_of.Given as goal

abbrev pub invariant-loop-table : goal.invariant-loop-table
invariant-loop-table l = record {
  untold : l.oracles.items ++ map untold (into_iter_items l.table-iterator) ≡ map untold l.fn.tables.items;
  few : All HasFewRows l.oracles.items;
  even : All HasEvenRows l.oracles.items;
}
