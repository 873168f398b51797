use Rattle.std.proofs.Common.{◌≡◌, []}
use Rattle.fca_model.specs.Levels.{levels_below}
use Rattle.pseudo_levels.specs.Search.{LeadsAll, AreWide}
use Rattle.pseudo_levels.proofs.basis_by_levels.Given as goal

abbrev pub invariant-loop-size : goal.invariant-loop-size
invariant-loop-size g l = record {
  width : l.found.width ≡ l.rows.width;
  members : l.found.members ≡ levels_below l.size [] l.rows;
  leads_all : LeadsAll [] l.rows l.size l.found.members l.candidates;
  wide : AreWide l.rows.width l.candidates;
}
