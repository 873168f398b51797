use Rattle.std.specs.Prelude.{◌≡◌, filter, take}
use Rattle.std.specs.List.{fold}
use Rattle.fca_model.specs.Sets.{full, meet, within}
use Rattle.lattice_covers.proofs.chain.meet_having.Given as goal

abbrev pub invariant-loop-row : goal.invariant-loop-row
invariant-loop-row g l = record {
  met : l.met ≡ fold meet (full l.rows.width) (filter (within l.a) (take l.row-index l.rows.rows));
}
