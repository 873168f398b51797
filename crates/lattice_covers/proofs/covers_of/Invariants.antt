use Rattle.std.proofs.Common.{◌≡◌, ◌++◌, drop}
use Rattle.std.specs.List.{flat_map, enumerate_from}
use Rattle.fca_model.specs.Pseudo.{covers_of}
use Rattle.lattice_covers.specs.Neighbours.{AreLinks}
use Rattle.lattice_covers.proofs.PlaceLemmas.{row_of}
use Rattle.lattice_covers.proofs.covers_of.Given as goal

-- the pairs so far, followed by those of the intents that are left
abbrev pub invariant-loop-i : goal.invariant-loop-i
invariant-loop-i g l = record {
  listed : l.pairs.items ++ flat_map (row_of l.intents) (enumerate_from l.i (drop l.i l.intents)) ≡ covers_of l.intents;
  links : AreLinks l.rows l.chain.items;
}
